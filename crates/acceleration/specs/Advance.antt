-- acceleration.rs: the step along a new direction, over lists. Definitions only.
use Rattle.std.specs.Prelude.{List, ℕ, Float}
use Rattle.float.specs.Float.{add64, mul64}
use Rattle.refusal.specs.Refusal.{bad_dot_product}
use Rattle.refusal.specs.Outcome.{Outcome, accepted, ◌>>=◌}
use Rattle.store.specs.Region.{at}
use Rattle.store.specs.Vector.{tab}
use Rattle.vector.specs.Dot.{dot_of, product_of}
use Rattle.acceleration.specs.Directions.{Pair, finite}

-- the solution, moved along the new direction by `alpha`
unfoldable pub advance_of : ℕ → List Float → Pair → List Float → Outcome (List Float)
advance_of n residual new solution = do
  alpha ← finite bad_dot_product (product_of (dot_of n residual new.image))
  accepted (tab (λ row. add64 (at solution row) (mul64 alpha (at new.direction row))) n)
