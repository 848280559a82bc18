use Rattle.store.proofs.store.Each.{Tested}
use Rattle.index_check.proofs.tables.Laws.{both_rise}
use Rattle.index_check.proofs.tables.two_rise.Given as goal

abbrev pub invariant-loop-k : goal.invariant-loop-k
invariant-loop-k l = Tested (both_rise l.w l.first l.second) l.n l.k l.ok
