use mathlib.Core.Path.{◌≡◌}
use lib.ListN.{length}
use Rattle.store.specs.Loop.{for}
use Rattle.store.proofs.store.Loop.{Left}
use Rattle.acceleration.proofs.normalize.Vectors.{over_turn}
use Rattle.acceleration.proofs.normalize.over.Given as goal

abbrev pub invariant-loop-row : goal.invariant-loop-row
invariant-loop-row l = (length l.f ≡ length l.initial.f) × Left (over_turn l.a l.x l.y) l.row l.n l.f (for (over_turn l.a l.x l.y) 0 l.n l.initial.f)
