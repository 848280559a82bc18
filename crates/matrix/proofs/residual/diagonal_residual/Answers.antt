-- `residual::diagonal_residual` meets its contract. The loop's invariant: what is left to do from here gives what the whole gives.
use mathlib.Core.Path.{refl}
use lib.ListN.{length-set}
use Rattle.store.proofs.store.Loop.{left_start, left_on, left_end}
use Rattle.matrix.specs.Turns.{less_turn}
use native.Mathlib.Omega.{arith}
use Rattle.matrix.proofs.residual.diagonal_residual.Goals as goal

pub loop-row-init : goal.loop-row-init
loop-row-init c = (refl, left_start)

pub loop-row-preserved : goal.loop-row-preserved
unfolding less_turn
loop-row-preserved c =
    (simp length-set (omega arith), left_on c.loop-row.invariant.1 (omega arith) refl)

pub returns : goal.returns
returns c = search (left_end)
