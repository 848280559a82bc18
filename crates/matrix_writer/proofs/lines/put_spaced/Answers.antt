-- `matrix_writer::lines::put_spaced` meets its contract: the digits and the space.
use native.Mathlib.Omega.{arith}
use Rattle.decimal_text.proofs.Writing.{laid_on, figures_length}
use Rattle.matrix_writer.proofs.lines.put_spaced.Goals as goal

pub put_byte-requires : goal.put_byte-requires
put_byte-requires c = omega (arith, c.put_number-next.ensures.next, figures_length 19 c.args.n)

pub returns : goal.returns
returns c = laid_on c.put_number-next.ensures c.put_byte.ensures
