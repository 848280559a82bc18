-- What one function requires of the next, and a row as the code has it.
-- Assumes nothing.
use mathlib.Core.Path.{◌≡◌, ◌∙◌}
use mathlib.Core.Bool.{Bool}
use mathlib.Core.List.{List}
use Prim.Native.Nat.{ℕ, ◌+◌}
use native.Mathlib.Omega.{arith}
use lib.Ieee.{Float}
use Rattle.store.specs.Region.{at}
use Rattle.matrix.specs.declared.matrix.SymmetricMatrix.{SymmetricMatrix}
use Rattle.matrix.specs.Turns.{start_of, end_of, VectorsOk}
use Rattle.matrix.proofs.matrix.Kernel.{kernel_above}
use Rattle.gauss_seidel.specs.Turns.{Watched}
use Rattle.dic.specs.Contract.{DicOk}
use Rattle.dic.specs.Turns.{pivot_turn, PivotRowed}

-- The layout holds in a store of the same size.
pub dic_resize : {w : List ℕ} {size size' d : ℕ} {s : SymmetricMatrix} → DicOk w size s d → size' ≡ size → DicOk w size' s d
dic_resize ok e = rw e ok

-- The matrix and the pivots lie in the stores.
pub pivots_ok : {w : List ℕ} {size d : ℕ} {s : SymmetricMatrix} → DicOk w size s d → VectorsOk w size s d d
pivots_ok ok = record { kernel = kernel_above ok.kernel (omega (arith, ok.fits)); us = ok.fits; vs = ok.fits }

-- The faces of one row.
pub pivot_rowed : (w : List ℕ) (s : SymmetricMatrix) (d : ℕ) {row lo hi : ℕ} {near : Bool} {pivot stays r : Float} {F G : List Float}
    → lo ≡ start_of w s row → hi ≡ end_of w s row → Watched (pivot_turn w s d pivot) lo hi F G near (d + (row + 1)) stays → r ≡ at G (d + (row + 1))
    → PivotRowed w s d row pivot F G r
pivot_rowed w s d a b c e = record { is = c.is ∙ rw (a, b); next = e }
