use Rattle.record_format.proofs.Placing.{last_placed}
use Rattle.record_format.proofs.writing.put_last.Goals as goal

pub returns : goal.returns
returns c = search (last_placed)
