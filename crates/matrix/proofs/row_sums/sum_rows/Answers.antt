-- `row_sums::sum_rows` meets its contract. The loop's invariant: what is left to do from here gives what the whole gives.
use mathlib.Core.Path.{refl}
use Rattle.store.proofs.store.Loop.{left_start, left_on}
use Rattle.matrix.proofs.matrix.Turns.{summed}
use native.Mathlib.Omega.{arith}
use borrow.Author.Rules.{rules}
use Rattle.matrix.proofs.row_sums.sum_rows.Goals as goal

pub loop-row-init : goal.loop-row-init
loop-row-init c = (refl, left_start)

pub sum_row-requires : goal.sum_row-requires
sum_row-requires c =
    record { kernel_ok = c.requires.kernel_ok; rows_in_bounds = omega arith; row_lt_rows = c.loop-row-test.true }

pub loop-row-preserved : goal.loop-row-preserved
loop-row-preserved c =
    (search rules, left_on c.loop-row.invariant.1 c.loop-row-test.true c.sum_row.ensures.is)

pub returns : goal.returns
returns c = summed c.loop-row.invariant.1 c.loop-row-test.false
