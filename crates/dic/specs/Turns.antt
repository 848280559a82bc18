-- The loop over a row's faces as a function of the store. Definitions only.
use Rattle.std.specs.Prelude.{List, ◌≡◌, ℕ, ◌+◌, Float}
use Rattle.float.specs.Float.{div64, square_of}
use Rattle.store.specs.Region.{at}
use Rattle.matrix.specs.declared.matrix.SymmetricMatrix.{SymmetricMatrix}
use Rattle.gauss_seidel.specs.Turns.{row_faces, scatter_turn}

-- `pivotFace` in a store
abbrev pub pivot_turn : List ℕ → SymmetricMatrix → ℕ → Float → ℕ → List Float → List Float
pivot_turn w s d pivot = scatter_turn w s (λ a. div64 (square_of a) pivot) d

-- what the faces of one row make of the pivots, and the next row's
pub record PivotRowed (w : List ℕ) (s : SymmetricMatrix) (d row : ℕ) (pivot : Float) (F G : List Float) (r : Float) : Type 0 where
  pub is : G ≡ row_faces w s row (pivot_turn w s d pivot) F
  pub next : r ≡ at G (d + (row + 1))
