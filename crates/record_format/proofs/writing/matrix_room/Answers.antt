use Rattle.record_format.proofs.Placing.{matrix_rows, matrix_entries, matrix_none, matrix_uneven, matrix_short, matrix_goes}
use Rattle.record_format.proofs.writing.matrix_room.Goals as goal

pub returns-then-offsets-gt65537 : goal.returns-then-offsets-gt65537
returns-then-offsets-gt65537 c = search (matrix_rows)

pub returns-then-columns-gt1048576 : goal.returns-then-columns-gt1048576
returns-then-columns-gt1048576 c = search (matrix_entries)

pub returns-then-offsets-eq0 : goal.returns-then-offsets-eq0
returns-then-offsets-eq0 c = search (matrix_none)

pub returns-then-columns-values : goal.returns-then-columns-values
returns-then-columns-values c = search (matrix_uneven)

pub returns-then-offsets-columns : goal.returns-then-offsets-columns
returns-then-offsets-columns c = search (matrix_short)

pub returns-else-offsets-columns : goal.returns-else-offsets-columns
returns-else-offsets-columns c = search (matrix_goes)
