use mathlib.Core.Path.{◌≡◌}
use lib.ListN.{length}
use Rattle.store.specs.Loop.{for}
use Rattle.store.proofs.store.Loop.{Left}
use Rattle.acceleration.proofs.directions.Vectors.{less_turn}
use Rattle.acceleration.proofs.directions.lessen.Given as goal

abbrev pub invariant-loop-row : goal.invariant-loop-row
invariant-loop-row l = (length l.f ≡ length l.initial.f) × Left (less_turn l.a l.x l.y) l.row l.n l.f (for (less_turn l.a l.x l.y) 0 l.n l.initial.f)
