-- `row_sums_into` gives exactly 1.0 in each row of a load. Assumes nothing.
use mathlib.Core.Path.{◌≡◌, refl, sym, ap, ◌∙◌}
use mathlib.Core.Bool.{true}
use mathlib.Core.List.{List}
use Prim.Native.Nat.{ℕ, ◌<◌}
use native.Mathlib.Omega.{arith}
use lib.Dec.{leb}
use lib.IntN.{pos}
use lib.ListN.{length}
use lib.Seq.{ext_get_or}
use lib.Ieee.{Float, nan, binary64, of_int, of_bits}
use Rattle.float.specs.Float.{one64}
use Rattle.store.specs.Vector.{filled}
use Rattle.store.proofs.store.Vector.{length_tab, get_d_tab}
use Rattle.store.proofs.store.Each.{both_l}
use Rattle.matrix.specs.Kernel.{row_sums_of}
use Rattle.load.specs.Box.{Grid, cells_of, box, all_positive, extents_ok}
use Rattle.load.specs.Load.{pattern_of, values_of}
use Rattle.load.specs.Theorem.{Neat}
use Rattle.load.proofs.Neat.{box_neat}
use Rattle.load.proofs.Pattern.{load_valid, load_rising, load_mirrored, load_diagonal}
use Rattle.load.proofs.Values.{Lean, load_whole, value_is, whole_small, entries_small, box_lean}
use Rattle.load.proofs.Sums.{load_sums}
use Rattle.load_theorem.specs.Sums.{kernel_for}
use Rattle.load_theorem.proofs.Running.{row_sums_exact, row_sums_length}

-- 1 as a float
one_is : of_int binary64 (pos 1) ≡ one64
unfolding of_int of_bits
one_is = refl

-- The row sums of a load on a neat grid.
sums_one : (seed : ℕ) (m : Grid) → Neat m → Lean m → (inverse : List Float) → row_sums_of (kernel_for (pattern_of m) (values_of seed m) inverse) ≡ filled m.cells one64
sums_one seed m neat lean inverse =
    let valid = load_valid neat in
    let rising = load_rising neat in
    let mirrored = load_mirrored neat in
    let diagonal = load_diagonal neat in
    let fine = load_whole seed m neat lean in
    let few = entries_small seed m neat lean in
    let sums = row_sums_of (kernel_for (pattern_of m) (values_of seed m) inverse) in
    let size : length sums ≡ m.cells = row_sums_length valid rising mirrored diagonal fine (value_is seed m neat lean) 32769 (whole_small seed m neat lean) (omega arith) inverse in
    ext_get_or nan sums (filled m.cells one64) (size ∙ sym (length_tab (λ _. one64) m.cells))
    (λ r h.
    let l : r < m.cells = omega arith in
    row_sums_exact valid rising mirrored diagonal fine (value_is seed m neat lean) 32769 (whole_small seed m neat lean) (omega arith) inverse r l
    ∙ ap (of_int binary64) (load_sums seed m neat r l) ∙ one_is ∙ sym (get_d_tab (λ _. one64) m.cells r nan l))

-- Every load, of any number of extents of at most 65,536 cells together: each row sum is 3ff0000000000000.
pub load_row_sums : (seed : ℕ) (es : List ℕ) → extents_ok es ≡ true → (inverse : List Float)
    → row_sums_of (kernel_for (pattern_of (box es)) (values_of seed (box es)) inverse) ≡ filled (cells_of es) one64
unfolding extents_ok
load_row_sums seed es h inverse = sums_one seed (box es) (box_neat es (both_l (all_positive es) (leb (cells_of es) 65536) h)) (box_lean es h) inverse
