-- `store::fill` meets its contract. The loop's invariant: what is left to do from here gives what the whole gives.
use mathlib.Core.Path.{refl}
use native.Mathlib.Omega.{arith}
use lib.ListN.{length-set}
use Rattle.store.proofs.store.Loop.{left_start, left_on}
use Rattle.store.proofs.store.Turns.{fill_turn, fill_done}
use Rattle.store.proofs.store.fill.Goals as goal

pub loop-k-init : goal.loop-k-init
loop-k-init g c = (refl, left_start)

pub loop-k-preserved : goal.loop-k-preserved
unfolding fill_turn
loop-k-preserved g c = (simp length-set (omega arith), left_on c.loop-k.invariant.1 (omega arith) refl)

pub returns : goal.returns
returns g c = search (fill_done)
