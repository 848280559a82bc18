-- `solving::solve` meets its contract: what the solve counted is added up.
use Rattle.multigrid.proofs.solving.Counting.{solve_count_ok, solve_done}
use Rattle.multigrid.proofs.solving.solve.Goals as goal

pub count-requires : goal.count-requires
count-requires c = solve_count_ok c.run-run.ensures

pub returns : goal.returns
returns c = solve_done c.run-run.ensures c.count.ensures
