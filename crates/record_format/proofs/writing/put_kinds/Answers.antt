use Rattle.record_format.proofs.Placing.{kinds_placed}
use Rattle.record_format.proofs.writing.put_kinds.Goals as goal

pub returns : goal.returns
returns c = search (kinds_placed)
