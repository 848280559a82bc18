-- `measure::measure` meets its contract: the norm, and then question 23.
use Rattle.residual_norm.proofs.measure.Laws.{measure_yes, measure_no}
use Rattle.residual_norm.proofs.measure.measure.Goals as goal

pub returns-then-is_finite : goal.returns-then-is_finite
returns-then-is_finite c = search (measure_yes)

pub returns-else-is_finite : goal.returns-else-is_finite
returns-else-is_finite c = search (measure_no)
