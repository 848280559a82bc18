use Rattle.aggregation.proofs.Laws.{Walking}
use Rattle.aggregation.proofs.pairs.Given as goal

abbrev pub invariant-loop-index : goal.invariant-loop-index
invariant-loop-index l = Walking l.g l.forward l.initial.w l.f l.index l.w l.count
