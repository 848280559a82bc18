-- `vector::dot_pairs` meets its contract. The loop's invariant: what is left to do from here gives the pairs' sum.
use native.Mathlib.Omega.{arith}
use Rattle.store.proofs.store.Loop.{left_start}
use Rattle.vector.proofs.vector.Laws.{pair_on, pairs_end}
use Rattle.vector.proofs.vector.dot_pairs.Goals as goal

pub loop-p-init : goal.loop-p-init
loop-p-init c = left_start

pub loop-p-preserved : goal.loop-p-preserved
loop-p-preserved c =
    let at-blocks = c in
    let at-loop = at-blocks in
    pair_on _ _ _ _ _ _ (omega arith) at-blocks.loop-p-test.true at-blocks.dot_blocks-sums.ensures at-loop.loop-p.invariant

pub returns : goal.returns
returns c = search (pairs_end)
