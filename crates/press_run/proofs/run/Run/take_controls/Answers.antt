-- `take_controls` meets its contract.
use Rattle.press_run.proofs.Taking.{controls_kept, controls_over}
use Rattle.press_run.proofs.run.Run.take_controls.Goals as goal

pub returns-in-Ok : goal.returns-in-Ok
returns-in-Ok c = search (controls_kept)

pub returns-in-Err : goal.returns-in-Err
returns-in-Err c = search (controls_over)
