-- `coarsen::settle_floats` meets its contract.
use mathlib.Core.Path.{◌∙◌}
use Rattle.coarsening.proofs.coarsen.Stepping.{floats_both, floats_one}
use Rattle.coarsening.proofs.coarsen.settle_floats.Goals as goal

pub shape_of-f-then-given : goal.shape_of-f-then-given
shape_of-f-then-given c = c.copy-then-given.ensures.size ∙ c.copy.ensures.size

pub returns-then-given : goal.returns-then-given
returns-then-given c =
    floats_both c.requires
    c.copy.ensures c.copy-then-given.ensures

pub shape_of-f-else-given : goal.shape_of-f-else-given
shape_of-f-else-given c = c.copy.ensures.size

pub returns-else-given : goal.returns-else-given
returns-else-given c =
    floats_one c.requires c.copy.ensures c.if-given.false
