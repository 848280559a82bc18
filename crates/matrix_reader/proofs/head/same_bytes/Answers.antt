-- `matrix_reader::head::same_bytes` meets its contract: what `==` says of two slices of bytes.
use mathlib.Core.Path.{◌∙◌}
use Rattle.matrix_reader.proofs.Opening.{same_is}
use Rattle.matrix_reader.proofs.head.same_bytes.Goals as goal

pub returns : goal.returns
returns c = c.eq.ensures ∙ same_is c.args.a.now c.args.b.now
