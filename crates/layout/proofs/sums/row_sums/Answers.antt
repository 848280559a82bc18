-- `sums::row_sums` meets its contract: zeros, or the row sums, by the norm.
use Rattle.layout.proofs.sums.Summing.{sums_none, sums_all}
use Rattle.layout.proofs.sums.row_sums.Goals as goal

pub returns-in-AbsoluteL2 : goal.returns-in-AbsoluteL2
returns-in-AbsoluteL2 c = sums_none _ _ c.in-AbsoluteL2.is c.fill.ensures

pub returns-in-NormalizedL1 : goal.returns-in-NormalizedL1
returns-in-NormalizedL1 c = sums_all _ _ c.in-NormalizedL1.is c.row_sums_into.ensures
