use mathlib.Core.Path.{◌≡◌}
use lib.ListN.{length}
use Rattle.store.specs.Loop.{for}
use Rattle.store.proofs.store.Loop.{Left}
use Rattle.correction.proofs.transfer.Transfer.{added_step}
use Rattle.correction.proofs.transfer.add_prolonged.Given as goal

abbrev pub invariant-loop-row : goal.invariant-loop-row
invariant-loop-row l =
    (length l.f ≡ length l.initial.f) × Left (added_step l.w l.a.map l.coarse l.x) l.row l.a.rows l.f (for (added_step l.w l.a.map l.coarse l.x) 0 l.a.rows l.initial.f)
