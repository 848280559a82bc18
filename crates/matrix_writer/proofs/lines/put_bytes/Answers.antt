-- `matrix_writer::lines::put_bytes` meets its contract: the loop's invariant: the bytes passed are laid.
use mathlib.Core.Path.{refl, ◌∙◌}
use native.Mathlib.Omega.{arith}
use Rattle.matrix_writer.proofs.Laying.{bytes_start, laid_size, bytes_early, bytes_on, bytes_all}
use Rattle.matrix_writer.proofs.lines.put_bytes.Goals as goal

pub loop-byte-init : goal.loop-byte-init
loop-byte-init c = (refl, bytes_start)

pub put_byte-next-requires : goal.put_byte-next-requires
put_byte-next-requires c = omega (arith, bytes_early c.loop-byte.invariant.1)

pub loop-byte-preserved : goal.loop-byte-preserved
loop-byte-preserved c = (laid_size c.put_byte-next.ensures ∙ c.loop-byte.invariant.0, bytes_on c.loop-byte.invariant.1 c.loop-byte-test.true refl c.put_byte-next.ensures)

pub returns : goal.returns
returns c = bytes_all c.loop-byte.invariant.1 c.loop-byte-test.false
