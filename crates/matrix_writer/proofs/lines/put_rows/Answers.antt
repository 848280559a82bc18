-- `matrix_writer::lines::put_rows` meets its contract: the loop's invariant: the lines of the rows passed are laid.
use mathlib.Core.Path.{refl, ◌∙◌}
use native.Mathlib.Omega.{arith}
use Rattle.matrix_writer.proofs.Laying.{laid_start, laid_step, laid_end, laid_size, rows_early}
use Rattle.matrix_writer.specs.Text.{triplets}
use Rattle.matrix_writer.proofs.lines.put_rows.Goals as goal

pub loop-row-init : goal.loop-row-init
loop-row-init c = (refl, laid_start _ _)

pub put_row-next-requires : goal.put_row-next-requires
put_row-next-requires c =
    (c.loop-row-test.true, omega (arith, rows_early _ _ c.args.source.now.rows_in c.loop-row.invariant.1 c.loop-row-test.true, c.args.source.now.arrays.fits.short))

pub loop-row-preserved : goal.loop-row-preserved
loop-row-preserved c = (laid_size c.put_row-next.ensures ∙ c.loop-row.invariant.0, laid_step c.loop-row.invariant.1 c.loop-row-test.true c.put_row-next.ensures)

pub returns : goal.returns
unfolding triplets
returns c = laid_end c.loop-row.invariant.1 c.loop-row-test.false
