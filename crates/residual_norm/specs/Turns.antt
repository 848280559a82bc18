-- The norm of a residual: the turns of the loops, by the names that proofs have for them. Definitions only.
use Rattle.std.specs.Prelude.{ℕ, List, Float}
use Rattle.float.specs.Float.{add64, mul64, abs_of, sub64}
use Rattle.store.specs.Region.{at}
use Rattle.residual_norm.specs.Measure.{sum_of}

-- one term more
unfoldable pub sum_turn : (ℕ → Float) → ℕ → Float → Float
sum_turn g row sum = add64 sum (g row)

-- `v * v` of one row
unfoldable pub square_at : List Float → ℕ → Float
square_at v row = mul64 (at v row) (at v row)

-- `v.abs()` of one row
unfoldable pub size_at : List Float → ℕ → Float
size_at v row = abs_of (at v row)

-- the squares of n elements, added up
unfoldable pub squares_of : ℕ → List Float → Float
squares_of n v = sum_of n (square_at v)

-- the absolute values of n elements, added up
unfoldable pub sizes_of : ℕ → List Float → Float
sizes_of n v = sum_of n (size_at v)

-- `(ax - sum * mean).abs() + (b - sum * mean).abs()`
unfoldable pub spread_of : Float → Float → Float → Float → Float
spread_of b ax rowsum mean = add64 (abs_of (sub64 ax (mul64 rowsum mean))) (abs_of (sub64 b (mul64 rowsum mean)))

-- the same of one row
unfoldable pub spread_at : List Float → List Float → List Float → Float → ℕ → Float
spread_at rhs product rowsums mean row = spread_of (at rhs row) (at product row) (at rowsums row) mean

-- the same of n rows, added up
unfoldable pub spreads_of : ℕ → List Float → List Float → List Float → Float → Float
spreads_of n rhs product rowsums mean = sum_of n (spread_at rhs product rowsums mean)
