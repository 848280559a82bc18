-- The Krylov directions of a solve: the turns of the loops, by the names that proofs have for them. Definitions only.
use Rattle.std.specs.Prelude.{List, ℕ, Float}
use Rattle.float.specs.Float.{add64, mul64}
use Rattle.store.specs.Region.{at}
use Rattle.store.specs.Vector.{tab}

-- `y[row] += a * x[row]`
unfoldable pub more_of : ℕ → Float → List Float → List Float → List Float
more_of n a x y = tab (λ row. add64 (at y row) (mul64 a (at x row))) n
