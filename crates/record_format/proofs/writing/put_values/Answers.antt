use Rattle.record_format.proofs.Placing.{values_placed}
use Rattle.record_format.proofs.writing.put_values.Goals as goal

pub returns : goal.returns
returns c = search (values_placed)
