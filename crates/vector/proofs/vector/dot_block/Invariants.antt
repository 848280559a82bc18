use Rattle.store.proofs.store.Loop.{Left}
use Rattle.vector.specs.Dot.{block_of}
use Rattle.vector.specs.Turns.{term_of}
use Rattle.vector.proofs.vector.dot_block.Given as goal

abbrev pub invariant-loop-k : goal.invariant-loop-k
invariant-loop-k l = Left (term_of l.u l.v) l.k l.hi l.sum (block_of l.u l.v l.lo l.hi)
