use Rattle.faces.proofs.faces.Walking.{Filling}
use Rattle.faces.proofs.faces.fill_faces.Given as goal

abbrev pub invariant-loop-e : goal.invariant-loop-e
invariant-loop-e l = Filling l.initial.w l.w l.s l.row l.face l.e
