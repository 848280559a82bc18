-- The terms of the spreads as the code has them, and what the functions above the sums give.
-- Assumes nothing.
use Rattle.std.proofs.Common.{◌≡◌, ℕ, ◌+◌, ◌-◌, ◌^◌, ◌≤◌, ◌<◌, List, pos, refl}
use lib.ListN.{length, take, drop}
use lib.Ieee.{Float, binary64, of_bits, of_int, round}
use Rattle.float.specs.Float.{div64, ratio, max_num}
use Rattle.options.specs.declared.options.MultigridResidualNorm.{MultigridResidualNorm}
use Rattle.store.specs.Region.{at, part}
use Rattle.store.proofs.store.Region.{get_d_part}
use Rattle.residual_norm.specs.Measure.{sum_of}
use Rattle.residual_norm.proofs.measure.Laws.{region}
use Rattle.residual_norm.specs.Turns.{spread_of, spread_at, spreads_of}
use Rattle.residual_norm.specs.Normalization.{mean_of, normalization_of}

module _ (F : List Float) (n row : ℕ) (h : row < n) where
  -- A row's spread as the code has it.
  pub spread_row : (rhs product rowsums : ℕ) (mean : Float)
      → spread_of (at F (rhs + row)) (at F (product + row)) (at F (rowsums + row)) mean
      ≡ spread_at (part rhs n F) (part product n F) (part rowsums n F) mean row
  unfolding spread_at
  spread_row rhs product rowsums mean = simp get_d_part

-- `mean` as the code has it.
pub mean_done : (n : ℕ) (x : List Float) {s d : Float} → s ≡ sum_of n (at x) → d ≡ of_int binary64 (pos n)
    → div64 s d ≡ mean_of n x
unfolding mean_of
mean_done n x e d = rw (e, d)

-- The bits of the code's 1e-300 are those of the f64 nearest to it.
floor_bits : of_bits binary64 0x01a5_6e1f_c2f8_f359 ≡ ratio 1 (10 ^ 300)
unfolding of_bits round
floor_bits = refl

-- `normalization` under the NormalizedL1 norm, which reads x as a slice of the store.
pub normal_done : (n x : ℕ) (F rhs product rowsums : List Float) {norm : MultigridResidualNorm} {m s r : Float} → x + n ≤ length F
    → norm ≡ MultigridResidualNorm.NormalizedL1 → m ≡ mean_of (length (take (x + n - x) (drop x F))) (take (x + n - x) (drop x F))
    → s ≡ spreads_of n rhs product rowsums m → r ≡ max_num s (of_bits binary64 0x01a5_6e1f_c2f8_f359)
    → r ≡ normalization_of norm n (part x n F) rhs product rowsums
unfolding normalization_of spreads_of spread_at spread_of
normal_done n x F rhs product rowsums h told e d t =
    let slice = region x n F h in
    let mean : _ ≡ mean_of n (part x n F) = rw (slice.0, slice.1) at e in
    rw (told, ← mean, ← d, ← floor_bits) t
