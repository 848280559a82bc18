-- The ways out of the functions over the two sums.
-- Assumes nothing.
use Rattle.std.specs.Prelude.{Some, None}
use Rattle.std.proofs.Common.{◌≡◌, refl, ℕ, ◌+◌, ◌-◌, ◌≤◌, Bool, true, false, List}
use native.Mathlib.Omega.{arith}
use lib.ListN.{length, take, drop}
use lib.Ieee.{Float}
use Rattle.float.specs.Float.{mul64, div64, abs_of, is_finite}
use Rattle.float.specs.Sqrt.{sqrt_of}
use Rattle.options.specs.declared.options.MultigridResidualNorm.{MultigridResidualNorm}
use Rattle.store.specs.Region.{part}
use Rattle.store.proofs.store.Region.{length_part}
use Rattle.vector.proofs.vector.Laws.{product_yes, product_no}
use Rattle.residual_norm.specs.Measure.{value_of, measure_of}
use Rattle.residual_norm.specs.Turns.{square_at, size_at, squares_of, sizes_of}

-- The region of the store that is read as a slice.
pub region : (x n : ℕ) (F : List Float) → x + n ≤ length F
    → (length (take (x + n - x) (drop x F)) ≡ n) × (take (x + n - x) (drop x F) ≡ part x n F)
unfolding part
region x n F h =
    let i : x + n - x ≡ n = omega arith in
    let l : length (take n (drop x F)) ≡ n = length_part x n F h in
    rw i (l, refl)

-- The two norms of `value`.
pub value_squares : (n : ℕ) (residual : List Float) (factor : Float) {norm : MultigridResidualNorm} {s r : Float}
    → norm ≡ MultigridResidualNorm.AbsoluteL2 → s ≡ squares_of n residual → r ≡ sqrt_of s → r ≡ value_of norm n residual factor
unfolding value_of squares_of square_at sizes_of size_at
value_squares n residual factor told e t = rw (told, ← e) t

pub value_sizes : (n : ℕ) (residual : List Float) (factor : Float) {norm : MultigridResidualNorm} {s : Float}
    → norm ≡ MultigridResidualNorm.NormalizedL1 → s ≡ sizes_of n residual → div64 s factor ≡ value_of norm n residual factor
unfolding value_of squares_of square_at sizes_of size_at
value_sizes n residual factor told e = rw (told, ← e)

-- The two ways out of `measure`: v is the norm and t the answer to question 23.
module _ (norm : MultigridResidualNorm) (x n : ℕ) (F : List Float) (factor : Float) {v : Float} {t : Bool} (h : x + n ≤ length F)
    (e : v ≡ value_of norm (length (take (x + n - x) (drop x F))) (take (x + n - x) (drop x F)) factor) (a : t ≡ is_finite v) where
  value_is : v ≡ value_of norm n (part x n F) factor
  value_is = let r = region x n F h in rw (r.0, r.1) at e

  pub measure_yes : t ≡ true → Some v ≡ measure_of norm n (part x n F) factor
  unfolding measure_of
  measure_yes y = rw (← value_is) (product_yes v t a y)

  pub measure_no : t ≡ false → None ≡ measure_of norm n (part x n F) factor
  unfolding measure_of
  measure_no y = rw (← value_is) (product_no v t a y)
