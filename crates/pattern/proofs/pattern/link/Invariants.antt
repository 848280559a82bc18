use Rattle.pattern.specs.Steps.{Links}
use Rattle.pattern.proofs.pattern.link.Given as goal

abbrev pub invariant-loop-i : goal.invariant-loop-i
invariant-loop-i l = Links l.initial.w l.w l.c l.i
