-- `build` meets its contract: each part that is lent is as much of its slice as the matrix has.
use Rattle.press_run.proofs.Calling.{run_build}
use Rattle.press_run.proofs.build.Goals as goal

pub returns : goal.returns
returns c = search (run_build c.part.result c.first.result)
