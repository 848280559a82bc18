-- `scaling::correction_products` meets its contract. The loop's invariant: what is left to do from here gives both sums.
use Rattle.store.proofs.store.Loop.{left_start, left_on, left_end}
use Rattle.correction.specs.Scaling.{products_turn, products_of}
use Rattle.correction.proofs.scaling.Scaling.{products_on}
use native.Mathlib.Omega.{arith}
use Rattle.correction.proofs.scaling.correction_products.Goals as goal

pub loop-row-init : goal.loop-row-init
unfolding products_of products_turn
loop-row-init c = left_start

pub loop-row-preserved : goal.loop-row-preserved
loop-row-preserved c =
    let at-loop = c in
    left_on at-loop.loop-row.invariant (omega arith) (products_on _ _ _ _ _ _ _ _ (omega arith))

pub returns : goal.returns
returns c = search (left_end)
