use Rattle.pattern.specs.Steps.{Gathered}
use Rattle.pattern.proofs.gathering.gather_rows.Given as goal

abbrev pub invariant-loop-a : goal.invariant-loop-a
invariant-loop-a l = Gathered l.initial.w l.w l.c l.a 0 l.found
