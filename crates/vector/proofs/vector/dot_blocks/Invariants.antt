use Rattle.vector.proofs.vector.Laws.{Sides}
use Rattle.vector.proofs.vector.dot_blocks.Given as goal

abbrev pub invariant-loop-k : goal.invariant-loop-k
invariant-loop-k l = Sides l.u l.v l.lo l.k l.first l.second
