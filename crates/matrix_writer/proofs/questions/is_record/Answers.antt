-- `matrix_writer::questions::is_record` meets its contract: its tests are those of the mark and of the length.
use Rattle.matrix_writer.proofs.Asking.{record_is}
use Rattle.matrix_writer.proofs.questions.is_record.Goals as goal

pub returns : goal.returns
returns c = search (record_is)
