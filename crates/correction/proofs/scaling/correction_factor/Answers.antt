-- `scaling::correction_factor` meets its contract.
use Rattle.correction.proofs.scaling.Scaling.{factor_done}
use Rattle.correction.proofs.scaling.correction_factor.Goals as goal

pub returns : goal.returns
returns c = search (factor_done)
