-- `gauss_seidel::forward` meets its contract.
use Rattle.matrix.proofs.matrix.Turns.{vectors_resize}
use Rattle.gauss_seidel.proofs.Turns.{sweeping_start, sweeping_on, sweeping_end}
use borrow.Author.Rules.{rules}
use Rattle.gauss_seidel.proofs.forward.Goals as goal

pub loop-row-init : goal.loop-row-init
loop-row-init c = sweeping_start _ _ _ c.float_at-start.ensures

pub forward_row-start-requires : goal.forward_row-start-requires
forward_row-start-requires c =
    record { vectors_ok = vectors_resize c.requires c.loop-row.invariant.size; row_lt_rows = c.loop-row-test.true; start_value = c.loop-row.invariant.held }

pub loop-row-preserved : goal.loop-row-preserved
loop-row-preserved c =
    sweeping_on c.loop-row.invariant c.loop-row-test.true c.forward_row-start.ensures (search rules)

pub returns : goal.returns
returns c = sweeping_end c.loop-row.invariant c.loop-row-test.false
