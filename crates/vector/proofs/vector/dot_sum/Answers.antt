-- `vector::dot_sum` meets its contract. The loop's invariant: what is left to do from here gives the whole sum.
use Rattle.std.proofs.Common.{◌≡◌, ◌+◌, ◌/◌, length}
use native.Mathlib.Omega.{arith}
use Rattle.store.proofs.store.Loop.{left_on, left_end}
use Rattle.vector.proofs.vector.Laws.{block_on, pairs_left}
use Rattle.vector.proofs.vector.dot_sum.Goals as goal

pub loop-i-init : goal.loop-i-init
loop-i-init c =
    let up : c.div_ceil-blocks.result ≡ (length c.args.u.now + 1023) / 1024 = let e = c.div_ceil-blocks.ensures in omega arith in
    rw up (pairs_left _ _ _ _ (omega arith) c.dot_pairs-sum.ensures)

pub loop-i-preserved : goal.loop-i-preserved
loop-i-preserved c = left_on c.loop-i.invariant c.loop-i-test.true (block_on _ _ _ _ _ _ _ c.min-hi.ensures c.dot_block-sum.ensures)

pub returns : goal.returns
returns c = search (left_end)
