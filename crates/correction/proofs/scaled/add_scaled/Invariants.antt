use mathlib.Core.Path.{◌≡◌}
use lib.ListN.{length}
use Rattle.store.specs.Loop.{for}
use Rattle.store.proofs.store.Loop.{Left}
use Rattle.correction.proofs.scaled.Scaled.{scaled_step}
use Rattle.correction.proofs.scaled.add_scaled.Given as goal

abbrev pub invariant-loop-row : goal.invariant-loop-row
invariant-loop-row l =
    (length l.f ≡ length l.initial.f) × Left (scaled_step l.factor l.correction l.residual l.product l.inverse l.x) l.row l.n l.f
    (for (scaled_step l.factor l.correction l.residual l.product l.inverse l.x) 0 l.n l.initial.f)
