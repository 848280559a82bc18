use mathlib.Core.Path.{◌≡◌}
use lib.ListN.{length}
use Rattle.store.specs.Loop.{for}
use Rattle.store.proofs.store.Loop.{Left}
use Rattle.correction.proofs.correction.Correction.{plain_step}
use Rattle.correction.proofs.correction.add_plain.Given as goal

abbrev pub invariant-loop-row : goal.invariant-loop-row
invariant-loop-row l =
    (length l.f ≡ length l.initial.f) × Left (plain_step l.correction l.x) l.row l.n l.f (for (plain_step l.correction l.x) 0 l.n l.initial.f)
