-- `normalization::normalization` meets its contract; the floor of the code is the f64 nearest to 1e-300.
use Rattle.residual_norm.specs.Normalization.{normalization_of}
use Rattle.residual_norm.specs.Turns.{spreads_of, spread_at, spread_of}
use Rattle.residual_norm.proofs.normalization.Laws.{normal_done}
use Rattle.residual_norm.proofs.normalization.normalization.Goals as goal

pub returns-in-AbsoluteL2 : goal.returns-in-AbsoluteL2
unfolding normalization_of spreads_of spread_at spread_of
returns-in-AbsoluteL2 c = rw c.in-AbsoluteL2.is

pub returns-in-NormalizedL1 : goal.returns-in-NormalizedL1
returns-in-NormalizedL1 c = search (normal_done)
