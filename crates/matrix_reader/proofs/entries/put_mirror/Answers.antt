-- `matrix_reader::entries::put_mirror` meets its contract: by whether the entry is on the diagonal.
use Rattle.matrix_reader.proofs.Stored.{mirror_kept, mirror_put}
use Rattle.matrix_reader.proofs.entries.put_mirror.Goals as goal

pub returns-then-row-column : goal.returns-then-row-column
returns-then-row-column c = mirror_kept c.args.k c.args.total c.args.rows.now c.args.columns.now c.args.values.now c.if-row-column.true

pub returns : goal.returns
returns c = mirror_put c.args.k c.args.total c.requires c.if-row-column.false c.put_entry.ensures
