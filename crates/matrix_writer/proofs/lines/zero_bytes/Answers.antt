-- `matrix_writer::lines::zero_bytes` meets its contract: the fill covers the whole output.
use mathlib.Core.Path.{refl}
use Rattle.store.proofs.store.Region.{wrote_whole}
use Rattle.matrix_writer.proofs.lines.zero_bytes.Goals as goal

pub returns : goal.returns
returns c = wrote_whole c.fill.ensures refl
