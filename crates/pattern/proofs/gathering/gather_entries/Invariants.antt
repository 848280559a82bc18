use Rattle.pattern.specs.Steps.{Gathered}
use Rattle.pattern.proofs.gathering.gather_entries.Given as goal

abbrev pub invariant-loop-e : goal.invariant-loop-e
invariant-loop-e l = Gathered l.initial.w l.w l.c l.a l.e l.found
