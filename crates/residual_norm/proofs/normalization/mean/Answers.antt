-- `normalization::mean` meets its contract.
use Rattle.residual_norm.proofs.normalization.Laws.{mean_done}
use Rattle.residual_norm.proofs.normalization.mean.Goals as goal

pub returns : goal.returns
returns c = search (mean_done)
