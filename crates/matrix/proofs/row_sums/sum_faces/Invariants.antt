use Rattle.matrix.proofs.row_sums.Sums.{Holding}
use Rattle.matrix.proofs.row_sums.sum_faces.Given as goal

abbrev pub invariant-loop-face : goal.invariant-loop-face
invariant-loop-face l = Holding l.w l.s l.sums l.row l.lo l.hi l.face l.initial.f l.f l.own
