use Rattle.record_format.proofs.Placing.{controls_written, controls_unwritten}
use Rattle.record_format.proofs.writing.write_controls.Goals as goal

pub returns-then-out-lt110 : goal.returns-then-out-lt110
returns-then-out-lt110 c = search (controls_unwritten)

pub returns-else-out-lt110 : goal.returns-else-out-lt110
returns-else-out-lt110 c = search (controls_written)
