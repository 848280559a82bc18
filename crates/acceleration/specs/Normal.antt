-- acceleration.rs: a new pair over the norm of its image, over lists. Definitions only.
use Rattle.std.specs.Prelude.{◌&&◌, List, ℕ, Float}
use Rattle.std.specs.Float.Ieee.{ne}
use Rattle.float.specs.Float.{div64, zero64}
use Rattle.refusal.specs.Refusal.{bad_dot_product, zero_image, bad_direction}
use Rattle.refusal.specs.Outcome.{Outcome, accepted, ask, ◌>>=◌, ◌>>◌}
use Rattle.store.specs.Region.{at}
use Rattle.store.specs.Vector.{tab}
use Rattle.vector.specs.Dot.{norm_of}
use Rattle.vector.specs.Finite.{all_finite}
use Rattle.acceleration.specs.Directions.{Pair, finite}

-- `y[row] = x[row] / a`
unfoldable pub over_of : ℕ → Float → List Float → List Float
over_of n a x = tab (λ row. div64 (at x row) a) n

-- the new pair over the norm of its image: 28, 29, and 30, which names no row, so that the order of its rows is free
unfoldable pub normal_of : ℕ → Pair → Outcome Pair
normal_of n s = do
  norm ← finite bad_dot_product (norm_of n s.image)
  ask (ne norm zero64) zero_image
  ask (all_finite n (over_of n norm s.direction) && all_finite n (over_of n norm s.image)) bad_direction
  accepted (record { direction = over_of n norm s.direction; image = over_of n norm s.image })
