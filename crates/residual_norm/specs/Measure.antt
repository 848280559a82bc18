-- Sums in row order, and `measure` of mod.rs, over lists. Definitions only.
use Rattle.std.specs.Prelude.{ℕ, List, Float, Option}
use Rattle.float.specs.Float.{add64, mul64, div64, neg_zero, abs_of}
use Rattle.float.specs.Sqrt.{sqrt_of}
use Rattle.options.specs.declared.options.MultigridResidualNorm.{MultigridResidualNorm}
use Rattle.store.specs.Loop.{for}
use Rattle.store.specs.Region.{at}
use Rattle.vector.specs.Dot.{product_of}

-- `iter().map(g).sum()` of n rows, in order, from −0
unfoldable pub sum_of : ℕ → (ℕ → Float) → Float
sum_of n g = for (λ row sum. add64 sum (g row)) 0 n neg_zero

-- `value` of `measure`: the norm of a residual of n rows
unfoldable pub value_of : MultigridResidualNorm → ℕ → List Float → Float → Float
value_of MultigridResidualNorm.AbsoluteL2 n residual factor = sqrt_of (sum_of n (λ row. mul64 (at residual row) (at residual row)))
value_of MultigridResidualNorm.NormalizedL1 n residual factor = div64 (sum_of n (λ row. abs_of (at residual row))) factor

-- `measure` of mod.rs, with question 23
unfoldable pub measure_of : MultigridResidualNorm → ℕ → List Float → Float → Option Float
measure_of norm n residual factor = product_of (value_of norm n residual factor)
