-- `go_on` meets its contract.
use Rattle.press_run.proofs.Taking.{went_on_lem}
use Rattle.press_run.proofs.run.Run.go_on.Goals as goal

pub returns : goal.returns
returns c = search (went_on_lem)
