use mathlib.Core.Path.{◌≡◌}
use lib.ListN.{length}
use Rattle.store.specs.Loop.{for}
use Rattle.store.proofs.store.Loop.{Left}
use Rattle.gauss_seidel.specs.Turns.{backward_turn}
use Rattle.gauss_seidel.proofs.backward.Given as goal

abbrev pub invariant-loop-i : goal.invariant-loop-i
invariant-loop-i l = (length l.f ≡ length l.initial.f) × Left (backward_turn l.w l.s l.x l.work) l.i l.s.rows l.f (for (backward_turn l.w l.s l.x l.work) 0 l.s.rows l.initial.f)
