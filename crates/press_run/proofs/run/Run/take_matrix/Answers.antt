-- `take_matrix` meets its contract.
use Rattle.press_run.proofs.Taking.{matrix_kept, matrix_over}
use Rattle.press_run.proofs.run.Run.take_matrix.Goals as goal

pub returns-in-Ok : goal.returns-in-Ok
returns-in-Ok c = search (matrix_kept)

pub returns-in-Err : goal.returns-in-Err
returns-in-Err c = search (matrix_over)
