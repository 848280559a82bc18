-- `matrix_reader::record::write_record` meets its contract: part behind part.
use Rattle.matrix_reader.proofs.Recorded.{record_placed}
use Rattle.matrix_reader.proofs.record.write_record.Goals as goal

pub returns : goal.returns
returns c = record_placed c.args.columns.now c.args.values.now c.args.starts.now c.args.order.now c.requires c.put_sizes.ensures c.write_words.ensures c.write_picked.ensures c.write_picked_floats.ensures
