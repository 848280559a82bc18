use Rattle.gauss_seidel.specs.Turns.{lower_turn}
use Rattle.gauss_seidel.proofs.Turns.{Sweeping}
use Rattle.dic.proofs.sweep.lower.Given as goal

abbrev pub invariant-loop-row : goal.invariant-loop-row
invariant-loop-row l = Sweeping (lower_turn l.w l.s l.dic l.correction) l.s.rows l.correction l.initial.f l.row l.f l.start
