use mathlib.Core.Path.{◌≡◌}
use lib.ListN.{length}
use Rattle.store.specs.Loop.{for}
use Rattle.store.proofs.store.Loop.{Left}
use Rattle.correction.proofs.correction.Correction.{subtract_step}
use Rattle.correction.proofs.correction.subtract.Given as goal

abbrev pub invariant-loop-row : goal.invariant-loop-row
invariant-loop-row l =
    (length l.f ≡ length l.initial.f) × Left (subtract_step l.rhs l.product l.out) l.row l.n l.f (for (subtract_step l.rhs l.product l.out) 0 l.n l.initial.f)
