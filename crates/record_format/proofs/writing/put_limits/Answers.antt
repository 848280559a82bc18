use Rattle.record_format.proofs.Placing.{limits_placed}
use Rattle.record_format.proofs.writing.put_limits.Goals as goal

pub returns : goal.returns
returns c = search (limits_placed)
