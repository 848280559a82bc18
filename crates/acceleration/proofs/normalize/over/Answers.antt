-- `normalize::over` meets its contract. The loop's invariant: what is left to do from here gives what the whole gives.
use borrow.Author.Rules.{rules}
use mathlib.Core.Path.{refl}
use Rattle.store.proofs.store.Loop.{left_start, left_on}
use Rattle.acceleration.proofs.normalize.Vectors.{over_turn, over_done}
use Rattle.acceleration.proofs.normalize.over.Goals as goal

pub loop-row-init : goal.loop-row-init
loop-row-init c = (refl, left_start)

pub loop-row-preserved : goal.loop-row-preserved
unfolding over_turn
loop-row-preserved c = search (left_on, rules)

pub returns : goal.returns
returns c = search (over_done)
