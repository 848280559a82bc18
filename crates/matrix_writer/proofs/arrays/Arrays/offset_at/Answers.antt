-- `matrix_writer::arrays::Arrays::offset_at` meets its contract: the word at its place is that of the offsets.
use native.Mathlib.Omega.{arith}
use Rattle.matrix_writer.proofs.Bytes.{word_in}
use Rattle.matrix_writer.proofs.arrays.Arrays.offset_at.Goals as goal

pub returns : goal.returns
returns c = word_in _ _ _ _ c.word_at.ensures (omega arith)
