-- `vector::dot_block` meets its contract. The loop's invariant: what is left to do from here gives the block's sum.
use Rattle.store.proofs.store.Loop.{left_start, left_on, left_end}
use Rattle.std.proofs.Common.{refl}
use Rattle.vector.specs.Dot.{block_of}
use Rattle.vector.specs.Turns.{term_of}
use Rattle.vector.proofs.vector.dot_block.Goals as goal

pub loop-k-init : goal.loop-k-init
unfolding block_of term_of
loop-k-init c = left_start

pub loop-k-preserved : goal.loop-k-preserved
unfolding term_of
loop-k-preserved c = left_on c.loop-k.invariant c.loop-k-test.true refl

pub returns : goal.returns
returns c = search (left_end)
