-- `lists::calls::solve` meets its contract.
use Rattle.lists.proofs.lent.Numbering.{solve_over}
use Rattle.lists.proofs.calls.solve.Goals as goal

pub returns : goal.returns
returns c = search (solve_over)
