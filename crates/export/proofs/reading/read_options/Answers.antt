-- `read_options` reads the enums by their numbers and keeps the rest, but for the levels of a struct out of range.
use mathlib.Core.Path.{refl}
use Rattle.export.specs.Structs.{controls_of}
use Rattle.export.proofs.reading.read_options.Goals as goal

pub returns : goal.returns
unfolding controls_of
returns c =
    rw (
      c.smoother_of.ensures,
      c.residual_norm_of.ensures,
      c.levels_allowed.ensures,
      c.coarse_solver_of.ensures,
    )
    refl
