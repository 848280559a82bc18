use Rattle.record_format.proofs.Placing.{solve_many, solve_uneven, solve_short, solve_goes}
use Rattle.record_format.proofs.writing.solve_room.Goals as goal

pub returns-then-rhs-gt65536 : goal.returns-then-rhs-gt65536
returns-then-rhs-gt65536 c = search (solve_many)

pub returns-then-rhs-start : goal.returns-then-rhs-start
returns-then-rhs-start c = search (solve_uneven)

pub returns-then-rhs-size : goal.returns-then-rhs-size
returns-then-rhs-size c = search (solve_short)

pub returns-else-rhs-size : goal.returns-else-rhs-size
returns-else-rhs-size c = search (solve_goes)
