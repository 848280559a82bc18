use Rattle.record_format.proofs.Records.{controls_yes, controls_no}
use Rattle.record_format.proofs.controls.read_controls.Goals as goal

pub returns-then-controls_ok : goal.returns-then-controls_ok
returns-then-controls_ok c = search (controls_yes)

pub returns-else-controls_ok : goal.returns-else-controls_ok
returns-else-controls_ok c = search (controls_no)
