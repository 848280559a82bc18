use Rattle.record_format.proofs.Placing.{coarse_placed}
use Rattle.record_format.proofs.writing.put_coarse.Goals as goal

pub returns : goal.returns
returns c = search (coarse_placed)
