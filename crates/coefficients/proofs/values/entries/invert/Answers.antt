-- `values::entries::invert` meets its contract. The loop's invariant: the reciprocals passed are written, and the answer so far is theirs.
use mathlib.Core.Path.{refl}
use lib.ListN.{length-set}
use Rattle.coefficients.proofs.values.UpdateLaws.{inverting_start, invert_on, inverted}
use Rattle.coefficients.proofs.values.entries.invert.Goals as goal

pub loop-row-init : goal.loop-row-init
loop-row-init c = (refl, inverting_start _ _ _ _)

pub loop-row-preserved : goal.loop-row-preserved
loop-row-preserved c = (
  simp length-set c.loop-row.invariant.0,
  invert_on _ _ _ _ c.requires.rows_bound c.loop-row.invariant.1 c.loop-row-test.true c.is_positive.ensures c.is_finite.ensures,
)

pub returns : goal.returns
returns c = search (inverted)
