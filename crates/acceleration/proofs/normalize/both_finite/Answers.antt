-- `normalize::both_finite` meets its contract.
use mathlib.Core.Path.{◌∙◌}
use Rattle.acceleration.proofs.normalize.Normal.{both_yes, both_no}
use Rattle.acceleration.proofs.normalize.both_finite.Goals as goal

pub returns-then-all_finite : goal.returns-then-all_finite
returns-then-all_finite c = search (both_yes)

pub returns-else-all_finite : goal.returns-else-all_finite
returns-else-all_finite c = c.if-all_finite.false ∙ both_no _ c.all_finite.ensures c.if-all_finite.false
