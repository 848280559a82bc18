use Rattle.float.specs.Float.{div64, square_of}
use Rattle.gauss_seidel.proofs.Turns.{Scattering}
use Rattle.dic.proofs.dic.pivot_faces.Given as goal

abbrev pub invariant-loop-face : goal.invariant-loop-face
invariant-loop-face l = Scattering (λ a. div64 (square_of a) l.pivot) l.w l.s l.d l.lo l.hi l.next.near l.next.watched l.initial.f l.face l.f l.held
