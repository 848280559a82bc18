-- `multigrid_solve` reads its structs, solves and tells the answer.
use Rattle.multigrid_c.proofs.Telling.{solve_exported}
use Rattle.multigrid_c.proofs.calls.multigrid_solve.Goals as goal

pub returns : goal.returns
returns c = solve_exported c.args.hierarchy c.read_handle-handle.ensures c.read_limits-limits.ensures c.solve-solved.ensures c.tell_solved.ensures
