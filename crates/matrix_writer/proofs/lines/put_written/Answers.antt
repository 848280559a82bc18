-- `matrix_writer::lines::put_written` meets its contract: by whether the entry is written.
use mathlib.Core.Bool.{not}
use mathlib.Core.Path.{ap}
use Rattle.matrix_writer.proofs.Laying.{written_none, written_some}
use Rattle.matrix_writer.proofs.lines.put_written.Goals as goal

pub returns-then-not-is_written : goal.returns-then-not-is_written
returns-then-not-is_written c = written_none _ _ _ _ c.column_at-column.ensures c.is_written.ensures (ap not c.if-not-is_written.true)

pub returns : goal.returns
returns c = written_some _ _ _ _ c.column_at-column.ensures c.is_written.ensures (ap not c.if-not-is_written.false) c.value_at-value.ensures c.put_entry.ensures
