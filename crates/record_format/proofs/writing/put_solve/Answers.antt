use Rattle.record_format.proofs.Placing.{solve_placed}
use Rattle.record_format.proofs.writing.put_solve.Goals as goal

pub returns : goal.returns
returns c = search (solve_placed)
