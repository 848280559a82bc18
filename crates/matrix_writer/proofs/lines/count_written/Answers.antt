-- `matrix_writer::lines::count_written` meets its contract: the loop's invariant: the entries of the rows passed are counted.
use native.Mathlib.Omega.{arith}
use Rattle.matrix_writer.proofs.Laying.{count_start, count_on, count_end, rows_fit}
use Rattle.matrix_writer.specs.Text.{triplets}
use Rattle.matrix_writer.proofs.lines.count_written.Goals as goal

pub loop-row-init : goal.loop-row-init
loop-row-init c = count_start _ _

pub overflow_add-n : goal.overflow_add-n
overflow_add-n c = omega (arith, rows_fit _ _ c.args.source.now.rows_in c.loop-row.invariant c.loop-row-test.true c.count_row-n.ensures)

pub loop-row-preserved : goal.loop-row-preserved
loop-row-preserved c = count_on c.loop-row.invariant c.loop-row-test.true c.count_row-n.ensures

pub returns : goal.returns
unfolding triplets
returns c = count_end c.loop-row.invariant c.loop-row-test.false
