use Rattle.store.proofs.store.Each.{Tested}
use Rattle.index_check.proofs.tables.Laws.{below_at}
use Rattle.index_check.proofs.tables.below.Given as goal

abbrev pub invariant-loop-k : goal.invariant-loop-k
invariant-loop-k l = Tested (below_at l.w l.from l.limit) l.n l.k l.ok
