-- `matrix_writer::lines::put_entry` meets its contract: the pieces of the line, one behind another.
use Prim.Native.Nat.{◌+◌}
use native.Mathlib.Omega.{arith}
use Rattle.matrix_writer.proofs.Laying.{spaced_length, value_length}
use Rattle.decimal_text.proofs.Writing.{laid_on}
use Rattle.matrix_writer.proofs.lines.put_entry.Goals as goal

pub put_spaced-third-requires : goal.put_spaced-third-requires
put_spaced-third-requires c = omega (arith, c.put_spaced-second.ensures.next, spaced_length (c.args.row + 1))

pub put_float-end-requires : goal.put_float-end-requires
put_float-end-requires c = omega (arith, c.put_spaced-second.ensures.next, c.put_spaced-third.ensures.next, spaced_length (c.args.row + 1), spaced_length (c.args.column + 1))

pub put_byte-requires : goal.put_byte-requires
put_byte-requires c = omega (arith, c.put_spaced-second.ensures.next, c.put_spaced-third.ensures.next, c.put_float-end.ensures.next, spaced_length (c.args.row + 1), spaced_length (c.args.column + 1), value_length c.args.v)

pub returns : goal.returns
returns c = laid_on (laid_on (laid_on c.put_spaced-second.ensures c.put_spaced-third.ensures) c.put_float-end.ensures) c.put_byte.ensures
