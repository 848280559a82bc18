use Rattle.aggregation.proofs.Laws.{Choosing}
use Rattle.aggregation.proofs.strongest.Given as goal

abbrev pub invariant-loop-entry : goal.invariant-loop-entry
invariant-loop-entry l = Choosing l.g l.w l.f l.row l.end l.entry l.s
