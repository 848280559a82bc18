use Rattle.store.proofs.store.Loop.{Left}
use Rattle.vector.specs.Dot.{dot_of}
use Rattle.vector.specs.Turns.{block_turn}
use Rattle.vector.proofs.vector.dot_sum.Given as goal

abbrev pub invariant-loop-i : goal.invariant-loop-i
invariant-loop-i l = Left (block_turn l.n l.u l.v) l.i l.blocks l.sum (dot_of l.n l.u l.v)
