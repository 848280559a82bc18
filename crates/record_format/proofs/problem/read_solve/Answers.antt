use Rattle.record_format.proofs.Records.{solve_few, solve_yes, solve_no}
use Rattle.record_format.proofs.problem.read_solve.Goals as goal

pub lay_vectors-requires : goal.lay_vectors-requires
lay_vectors-requires c = search (solve_few)

pub returns-then-solve_ok : goal.returns-then-solve_ok
returns-then-solve_ok c = search (solve_yes)

pub returns-else-solve_ok : goal.returns-else-solve_ok
returns-else-solve_ok c = search (solve_no)
