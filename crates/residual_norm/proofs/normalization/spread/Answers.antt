-- `normalization::spread` meets its contract.
use Rattle.residual_norm.specs.Turns.{spread_of}
use Rattle.residual_norm.proofs.normalization.spread.Goals as goal

pub returns : goal.returns
unfolding spread_of
returns c = rw (c.abs.ensures, c.abs-2.ensures)
