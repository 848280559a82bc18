-- `in_range` tests the numbers of the enums and the yes or no.
use mathlib.Core.Path.{refl}
use Rattle.export.specs.Structs.{in_range}
use Rattle.export.proofs.reading.in_range.Goals as goal

pub returns : goal.returns
unfolding in_range
returns c = refl
