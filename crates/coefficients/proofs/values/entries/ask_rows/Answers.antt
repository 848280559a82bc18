-- `values::entries::ask_rows` meets its contract. The loop's invariant: the questions left give the answer.
use Rattle.coefficients.proofs.values.UpdateLaws.{asking_start, asking_done, row_bad, row_bad_reciprocal, row_on}
use Rattle.coefficients.proofs.values.entries.ask_rows.Goals as goal

pub loop-row-init : goal.loop-row-init
loop-row-init c = asking_start _ _ _ _

pub loop-row-preserved : goal.loop-row-preserved
loop-row-preserved c = search (row_on)

pub returns-then-not-is_positive : goal.returns-then-not-is_positive
returns-then-not-is_positive c = search (row_bad)

pub returns-then-not-is_finite : goal.returns-then-not-is_finite
returns-then-not-is_finite c = search (row_bad_reciprocal)

pub returns : goal.returns
returns c = search (asking_done)
