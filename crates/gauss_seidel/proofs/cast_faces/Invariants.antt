use Rattle.float.specs.Float.{mul64}
use Rattle.gauss_seidel.proofs.Turns.{Scattering}
use Rattle.gauss_seidel.proofs.cast_faces.Given as goal

abbrev pub invariant-loop-face : goal.invariant-loop-face
invariant-loop-face l = Scattering (λ a. mul64 a l.value) l.w l.s l.v l.lo l.hi l.next.near l.next.watched l.initial.f l.face l.f l.held
