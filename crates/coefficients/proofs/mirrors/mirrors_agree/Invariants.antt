use Rattle.coefficients.proofs.mirrors.Mirrors.{Agreed}
use Rattle.coefficients.proofs.mirrors.mirrors_agree.Given as goal

abbrev pub invariant-loop-face : goal.invariant-loop-face
invariant-loop-face l = Agreed l.w l.values l.upper l.lower l.faces l.face l.ok
