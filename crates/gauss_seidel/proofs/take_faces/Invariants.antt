use Rattle.float.specs.Float.{sub64}
use Rattle.gauss_seidel.proofs.Turns.{Gathering}
use Rattle.gauss_seidel.proofs.take_faces.Given as goal

abbrev pub invariant-loop-face : goal.invariant-loop-face
invariant-loop-face l = Gathering sub64 l.w l.s l.v l.lo l.hi l.start l.f l.face l.value
