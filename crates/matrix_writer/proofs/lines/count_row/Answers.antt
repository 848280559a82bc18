-- `matrix_writer::lines::count_row` meets its contract: the loop's invariant: the entries passed are counted.
use native.Mathlib.Omega.{arith}
use Rattle.matrix_writer.proofs.Laying.{written_one, row_count_start, row_count_few, row_count_on, row_count_end}
use Rattle.matrix_writer.proofs.lines.count_row.Goals as goal

pub loop-e-init : goal.loop-e-init
loop-e-init c = row_count_start _ _ _ c.range_at-first.ensures

pub overflow_add-n : goal.overflow_add-n
overflow_add-n c = omega (arith, row_count_few _ _ _ c.loop-e.invariant, written_one _ _ _ _ c.count_entry-n.ensures, c.range_at-first.ensures.within)

pub loop-e-preserved : goal.loop-e-preserved
loop-e-preserved c = row_count_on _ _ _ c.range_at-first.ensures c.loop-e.invariant c.loop-e.auto.e c.loop-e-test.true c.count_entry-n.ensures

pub returns : goal.returns
returns c = row_count_end _ _ _ c.range_at-first.ensures c.loop-e.invariant c.loop-e-test.false
