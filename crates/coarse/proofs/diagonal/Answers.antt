-- `coarse::diagonal` meets its contract. The loop's invariant: what is left to do from here gives what the whole gives.
use mathlib.Core.Path.{refl}
use lib.ListN.{length-set}
use Rattle.store.proofs.store.Loop.{left_start, left_on}
use Rattle.coarse.proofs.Terminals.{diagonal_turn, diagonal_done}
use Rattle.coarse.proofs.diagonal.Goals as goal

pub loop-row-init : goal.loop-row-init
loop-row-init c = (refl, left_start)

pub loop-row-preserved : goal.loop-row-preserved
unfolding diagonal_turn
loop-row-preserved c =
    let at_test = c in
    let at-loop = at_test in
    (simp length-set at-loop.loop-row.invariant.0, left_on at-loop.loop-row.invariant.1 at_test.loop-row-test.true refl)

pub returns : goal.returns
returns c = search (diagonal_done)
