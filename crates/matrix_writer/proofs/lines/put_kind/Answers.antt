-- `matrix_writer::lines::put_kind` meets its contract: by the two kinds.
use mathlib.Core.Path.{ap}
use Rattle.matrix_writer.specs.Text.{kind_text}
use Rattle.decimal_text.proofs.Writing.{laid_as}
use Rattle.matrix_writer.proofs.lines.put_kind.Goals as goal

pub returns-then-symmetric : goal.returns-then-symmetric
returns-then-symmetric c = laid_as (ap kind_text c.if-symmetric.true) c.put_bytes.ensures

pub returns : goal.returns
returns c = laid_as (ap kind_text c.if-symmetric.false) c.put_bytes-2.ensures
