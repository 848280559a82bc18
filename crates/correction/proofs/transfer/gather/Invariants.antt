use mathlib.Core.Path.{◌≡◌}
use lib.ListN.{length}
use Rattle.store.specs.Loop.{for}
use Rattle.store.proofs.store.Loop.{Left}
use Rattle.correction.proofs.transfer.Transfer.{gather_step}
use Rattle.correction.proofs.transfer.gather.Given as goal

abbrev pub invariant-loop-row : goal.invariant-loop-row
invariant-loop-row l =
    (length l.f ≡ length l.initial.f) × Left (gather_step l.w l.a.map l.residual l.out) l.row l.a.rows l.f (for (gather_step l.w l.a.map l.residual l.out) 0 l.a.rows l.initial.f)
