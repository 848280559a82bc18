use Rattle.store.proofs.store.Each.{Tested}
use Rattle.index_check.proofs.tables.Laws.{two_at}
use Rattle.index_check.proofs.tables.two_below.Given as goal

abbrev pub invariant-loop-k : goal.invariant-loop-k
invariant-loop-k l = Tested (two_at l.w l.first l.second l.lower l.upper) l.n l.k l.ok
