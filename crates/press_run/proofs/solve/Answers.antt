-- `solve` meets its contract: each part that is lent is as much of its slice as the matrix has.
use Rattle.press_run.proofs.Calling.{run_solve}
use Rattle.press_run.proofs.solve.Goals as goal

pub returns : goal.returns
returns c = search (run_solve)
