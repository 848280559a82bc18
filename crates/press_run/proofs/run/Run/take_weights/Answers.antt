-- `take_weights` meets its contract.
use Rattle.press_run.proofs.Taking.{weights_kept, weights_over}
use Rattle.press_run.proofs.run.Run.take_weights.Goals as goal

pub returns-in-Ok : goal.returns-in-Ok
returns-in-Ok c = search (weights_kept)

pub returns-in-Err : goal.returns-in-Err
returns-in-Err c = search (weights_over)
