-- `matrix_writer::lines::put_row` meets its contract: the loop's invariant: the lines of the entries passed are laid.
use mathlib.Core.Path.{refl, ◌∙◌}
use native.Mathlib.Omega.{arith}
use Rattle.matrix_writer.proofs.Laying.{row_laid_start, laid_size, row_early, row_laid_on, row_laid_end}
use Rattle.matrix_writer.proofs.lines.put_row.Goals as goal

pub loop-e-init : goal.loop-e-init
loop-e-init c = (refl, row_laid_start _ _ _ c.range_at-first.ensures)

pub put_written-next-requires : goal.put_written-next-requires
put_written-next-requires c =
    (c.requires.0, omega (arith, c.range_at-first.ensures.within), omega (arith, row_early _ _ _ c.loop-e.invariant.1, c.range_at-first.ensures.within, c.args.source.now.arrays.fits.short))

pub loop-e-preserved : goal.loop-e-preserved
loop-e-preserved c = (laid_size c.put_written-next.ensures ∙ c.loop-e.invariant.0, row_laid_on _ _ _ c.range_at-first.ensures c.loop-e.invariant.1 c.loop-e.auto.e c.loop-e-test.true c.put_written-next.ensures)

pub returns : goal.returns
returns c = row_laid_end _ _ _ c.range_at-first.ensures c.loop-e.invariant.1 c.loop-e-test.false
