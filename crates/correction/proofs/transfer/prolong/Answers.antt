-- `transfer::prolong` meets its contract. The loop's invariant: what is left to do from here gives what the whole gives.
use mathlib.Core.Path.{refl}
use lib.ListN.{length-set}
use Rattle.store.proofs.store.Loop.{left_start, left_on}
use Rattle.correction.proofs.transfer.Transfer.{prolong_done, prolong_on, prolong_near}
use native.Mathlib.Omega.{arith}
use borrow.Author.Rules.{rules}
use Rattle.correction.proofs.transfer.prolong.Goals as goal

pub loop-row-init : goal.loop-row-init
loop-row-init c = (refl, left_start)

pub index_at-aggregate-requires : goal.index_at-aggregate-requires
index_at-aggregate-requires c = search (prolong_near, rules)

pub loop-row-preserved : goal.loop-row-preserved
loop-row-preserved c =
    let at-index = c in
    let at-loop = at-index in (
      simp length-set (omega arith),
      left_on at-loop.loop-row.invariant.1 (omega arith) (prolong_on _ _ _ _ _ _ _ at-index.index_at-aggregate.ensures.value),
    )

pub returns : goal.returns
returns c = search (prolong_done)
