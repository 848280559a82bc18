use Rattle.gauss_seidel.specs.Turns.{forward_turn}
use Rattle.gauss_seidel.proofs.Turns.{Sweeping}
use Rattle.gauss_seidel.proofs.forward.Given as goal

abbrev pub invariant-loop-row : goal.invariant-loop-row
invariant-loop-row l = Sweeping (forward_turn l.w l.s l.x l.work) l.s.rows l.work l.initial.f l.row l.f l.start
