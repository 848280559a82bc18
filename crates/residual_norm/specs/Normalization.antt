-- The normalization of mod.rs, over lists. Definitions only.
use Rattle.std.specs.Prelude.{ℕ, ◌^◌, List, pos, Float}
use Rattle.std.specs.Float.{binary64}
use Rattle.std.specs.Float.Ieee.{of_int}
use Rattle.float.specs.Float.{add64, sub64, mul64, div64, one64, ratio, abs_of, max_num}
use Rattle.options.specs.declared.options.MultigridResidualNorm.{MultigridResidualNorm}
use Rattle.store.specs.Region.{at}
use Rattle.residual_norm.specs.Measure.{sum_of}

-- `mean` of mod.rs: the sum of n elements by `n as f64`
unfoldable pub mean_of : ℕ → List Float → Float
mean_of n x = div64 (sum_of n (at x)) (of_int binary64 (pos n))

-- `factor` of mod.rs: 1, or the sum of `(ax - sum * mean).abs() + (b - sum * mean).abs()` and at least 1e-300, which a NaN gives too
unfoldable pub normalization_of : MultigridResidualNorm → ℕ → List Float → List Float → List Float → List Float → Float
normalization_of MultigridResidualNorm.AbsoluteL2 n x rhs product rowsums = one64
normalization_of MultigridResidualNorm.NormalizedL1 n x rhs product rowsums =
    let mean = mean_of n x in
    let spread : ℕ → Float = λ row. add64 (abs_of (sub64 (at product row) (mul64 (at rowsums row) mean))) (abs_of (sub64 (at rhs row) (mul64 (at rowsums row) mean))) in
    max_num (sum_of n spread) (ratio 1 (10 ^ 300))
