-- `matrix_writer::lines::put_size` meets its contract: the pieces of the line, one behind another.
use native.Mathlib.Omega.{arith}
use Rattle.matrix_writer.proofs.Laying.{spaced_length}
use Rattle.decimal_text.proofs.Writing.{laid_on, figures_length}
use Rattle.matrix_writer.proofs.lines.put_size.Goals as goal

pub put_spaced-third-requires : goal.put_spaced-third-requires
put_spaced-third-requires c = omega (arith, c.put_spaced-second.ensures.next, spaced_length c.args.rows)

pub put_number-end-requires : goal.put_number-end-requires
put_number-end-requires c = omega (arith, c.put_spaced-second.ensures.next, c.put_spaced-third.ensures.next, spaced_length c.args.rows)

pub put_byte-requires : goal.put_byte-requires
put_byte-requires c = omega (arith, c.put_spaced-second.ensures.next, c.put_spaced-third.ensures.next, c.put_number-end.ensures.next, spaced_length c.args.rows, figures_length 19 c.args.count)

pub returns : goal.returns
returns c = laid_on (laid_on (laid_on c.put_spaced-second.ensures c.put_spaced-third.ensures) c.put_number-end.ensures) c.put_byte.ensures
