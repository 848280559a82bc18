use mathlib.Core.Path.{◌≡◌}
use lib.ListN.{length}
use Rattle.store.specs.Loop.{for}
use Rattle.store.proofs.store.Loop.{Left}
use Rattle.correction.proofs.transfer.Transfer.{prolong_step}
use Rattle.correction.proofs.transfer.prolong.Given as goal

abbrev pub invariant-loop-row : goal.invariant-loop-row
invariant-loop-row l =
    (length l.f ≡ length l.initial.f) × Left (prolong_step l.w l.a.map l.coarse l.out) l.row l.a.rows l.f (for (prolong_step l.w l.a.map l.coarse l.out) 0 l.a.rows l.initial.f)
