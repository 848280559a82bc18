-- `matrix::diagonal_product` meets its contract. The loop's invariant: what is left to do from here gives what the whole gives.
use mathlib.Core.Path.{refl}
use Rattle.store.proofs.store.Loop.{left_start, left_on, left_end}
use Rattle.matrix.specs.Turns.{product_turn}
use borrow.Author.Rules.{rules}
use Rattle.matrix.proofs.matrix.diagonal_product.Goals as goal

pub loop-row-init : goal.loop-row-init
loop-row-init c = (refl, left_start)

pub loop-row-preserved : goal.loop-row-preserved
unfolding product_turn
loop-row-preserved c = search (left_on, rules)

pub returns : goal.returns
returns c = search (left_end)
