use Rattle.record_format.specs.Format.{controls_ok}
use Rattle.record_format.proofs.controls.controls_ok.Goals as goal

pub returns : goal.returns
unfolding controls_ok
returns c = cc
