-- `matrix_writer::lines::count_entry` meets its contract: by whether the entry is written.
use Rattle.matrix_writer.proofs.Laying.{counted}
use Rattle.matrix_writer.proofs.lines.count_entry.Goals as goal

pub returns : goal.returns
returns c = counted _ _ _ _ c.column_at-column.ensures c.is_written.ensures c.from.ensures
