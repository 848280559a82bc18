use Rattle.record_format.proofs.Placing.{controls_placed}
use Rattle.record_format.proofs.writing.put_controls.Goals as goal

pub returns : goal.returns
returns c = search (controls_placed)
