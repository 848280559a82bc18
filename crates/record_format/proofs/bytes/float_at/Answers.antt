use mathlib.Core.Path.{ap, ◌∙◌}
use lib.Ieee.{binary64, of_bits}
use Rattle.record_format.proofs.bytes.float_at.Goals as goal

pub returns : goal.returns
returns c = c.of_bits.ensures ∙ ap (of_bits binary64) c.u64_at.ensures
