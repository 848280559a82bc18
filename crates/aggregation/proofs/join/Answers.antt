-- `aggregation::join` meets its contract.
use Rattle.aggregation.proofs.Laws.{size_few, join_done}
use native.Mathlib.Omega.{arith}
use Rattle.aggregation.proofs.join.Goals as goal

pub overflow_add-w-2 : goal.overflow_add-w-2
overflow_add-w-2 c = omega (arith, size_few c.requires c.wide.ensures)

pub returns : goal.returns
returns c = join_done c.requires c.wide.ensures
