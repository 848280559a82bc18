use Rattle.record_format.proofs.Placing.{values_many, values_short, values_go}
use Rattle.record_format.proofs.writing.values_room.Goals as goal

pub returns-then-values-gt1048576 : goal.returns-then-values-gt1048576
returns-then-values-gt1048576 c = search (values_many)

pub returns-then-values-size : goal.returns-then-values-size
returns-then-values-size c = search (values_short)

pub returns-else-values-size : goal.returns-else-values-size
returns-else-values-size c = search (values_go)
