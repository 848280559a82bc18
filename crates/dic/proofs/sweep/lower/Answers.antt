-- `sweep::lower` meets its contract.
use Rattle.matrix.proofs.matrix.Turns.{vectors_resize}
use Rattle.gauss_seidel.proofs.Turns.{sweeping_start, sweeping_on, sweeping_end}
use borrow.Author.Rules.{rules}
use Rattle.dic.proofs.sweep.lower.Goals as goal

pub loop-row-init : goal.loop-row-init
loop-row-init c = sweeping_start _ _ _ c.float_at-start.ensures

pub lower_row-start-requires : goal.lower_row-start-requires
lower_row-start-requires c =
    let at-loop = c in
    let start = at-loop in
    record { vectors_ok = vectors_resize start.requires at-loop.loop-row.invariant.size; row_lt_rows = c.loop-row-test.true; start_value = at-loop.loop-row.invariant.held }

pub loop-row-preserved : goal.loop-row-preserved
loop-row-preserved c =
    let at-if1 = c in
    let at-loop = at-if1 in
    sweeping_on at-loop.loop-row.invariant at-if1.loop-row-test.true c.lower_row-start.ensures (search rules)

pub returns : goal.returns
returns c = sweeping_end c.loop-row.invariant c.loop-row-test.false
