use mathlib.Core.Path.{◌≡◌}
use lib.ListN.{length}
use Rattle.coefficients.proofs.mirrors.Mirrors.{Taking}
use Rattle.coefficients.proofs.mirrors.take_faces.Given as goal

abbrev pub invariant-loop-face : goal.invariant-loop-face
invariant-loop-face l = (length l.f ≡ length l.initial.f) × Taking l.w l.values l.initial.f l.f l.upper l.lower l.to l.faces l.face l.ok
