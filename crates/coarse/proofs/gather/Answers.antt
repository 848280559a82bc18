-- `coarse::gather` meets its contract. The loop's invariant: what is left to do from here gives what the whole gives.
use borrow.Author.Rules.{rules}
use mathlib.Core.Path.{refl}
use lib.ListN.{length-set}
use Rattle.store.proofs.store.Loop.{left_start, left_on}
use Rattle.coarse.proofs.Terminals.{gather_on, near_at, gather_done}
use Rattle.coarse.proofs.gather.Goals as goal

pub loop-k-init : goal.loop-k-init
loop-k-init c = (refl, left_start)

pub index_at-row-requires : goal.index_at-row-requires
index_at-row-requires c = search (near_at, rules)

pub loop-k-preserved : goal.loop-k-preserved
loop-k-preserved c =
    let at-index = c in
    let at-loop = at-index in (
      simp length-set at-loop.loop-k.invariant.0,
      left_on at-loop.loop-k.invariant.1 at-index.loop-k-test.true (gather_on _ _ _ _ _ _ _ at-index.index_at-row.ensures.value),
    )

pub returns : goal.returns
returns c = search (gather_done)
