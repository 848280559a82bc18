-- `matrix_writer::arrays::Arrays::value_at` meets its contract: the two words at its place are the bits of the value.
use native.Mathlib.Omega.{arith}
use Rattle.matrix_writer.proofs.Bytes.{float_in}
use Rattle.matrix_writer.proofs.arrays.Arrays.value_at.Goals as goal

pub returns : goal.returns
returns c = float_in _ _ _ _ c.word_at-low.ensures c.word_at-high.ensures (omega arith) c.of_bits.ensures
