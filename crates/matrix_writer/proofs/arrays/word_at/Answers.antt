-- `matrix_writer::arrays::word_at` meets its contract: four bytes are a u32.
use Rattle.record_format.proofs.Reading.{word_is}
use Rattle.matrix_writer.proofs.arrays.word_at.Goals as goal

pub returns : goal.returns
returns c = search (word_is)
