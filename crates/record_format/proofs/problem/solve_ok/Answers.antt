use Rattle.record_format.proofs.Records.{solve_ok_is, solve_ok_no}
use Rattle.record_format.proofs.problem.solve_ok.Goals as goal

pub returns-then-rows-le64 : goal.returns-then-rows-le64
returns-then-rows-le64 c = search (solve_ok_is)

pub returns-else-rows-le64 : goal.returns-else-rows-le64
returns-else-rows-le64 c = search (solve_ok_no)
