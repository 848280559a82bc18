use Rattle.faces.proofs.faces.Walking.{Mirroring}
use Rattle.faces.proofs.mirrors.mirrors.Given as goal

abbrev pub invariant-loop-e : goal.invariant-loop-e
invariant-loop-e l = Mirroring l.initial.w l.w l.s l.row l.face l.e
