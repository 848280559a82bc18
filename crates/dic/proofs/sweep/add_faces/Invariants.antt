use Rattle.float.specs.Float.{add64, zero64}
use Rattle.gauss_seidel.proofs.Turns.{Gathering}
use Rattle.dic.proofs.sweep.add_faces.Given as goal

abbrev pub invariant-loop-face : goal.invariant-loop-face
invariant-loop-face l = Gathering add64 l.w l.s l.v l.lo l.hi zero64 l.f l.face l.value
