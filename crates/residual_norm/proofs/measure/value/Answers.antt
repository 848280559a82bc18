-- `measure::value` meets its contract: one law for each norm.
use Rattle.residual_norm.proofs.measure.Laws.{value_squares, value_sizes}
use Rattle.residual_norm.proofs.measure.value.Goals as goal

pub returns-in-AbsoluteL2 : goal.returns-in-AbsoluteL2
returns-in-AbsoluteL2 c = search (value_squares)

pub returns-in-NormalizedL1 : goal.returns-in-NormalizedL1
returns-in-NormalizedL1 c = search (value_sizes)
