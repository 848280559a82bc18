-- `take_build` meets its contract.
use Rattle.press_run.proofs.Taking.{build_kept, build_over}
use Rattle.press_run.proofs.run.Run.take_build.Goals as goal

pub returns-in-Ok : goal.returns-in-Ok
returns-in-Ok c = search (build_kept)

pub returns-in-Err : goal.returns-in-Err
returns-in-Err c = search (build_over)
