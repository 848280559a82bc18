-- `matrix_writer::arrays::Source::range_at` meets its contract: the rows lie among the entries.
use Rattle.matrix_writer.proofs.Asking.{range_is}
use Rattle.matrix_writer.proofs.arrays.Source.range_at.Goals as goal

pub returns : goal.returns
returns c = range_is _ _ c.args.self.now.rows_in c.requires c.offset_at-first.ensures c.offset_at-last.ensures
