-- `start` meets its contract.
use Rattle.press_run.proofs.Taking.{start_is}
use Rattle.press_run.proofs.run.Run.start.Goals as goal

pub returns : goal.returns
returns c = search (start_is)
