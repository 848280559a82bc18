use Rattle.faces.proofs.faces.Asking.{Asking}
use Rattle.faces.proofs.diagonals.diagonals.Given as goal

abbrev pub invariant-loop-row : goal.invariant-loop-row
invariant-loop-row l = Asking l.level l.initial.w l.w l.s l.row
