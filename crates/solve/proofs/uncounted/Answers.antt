-- `solve::uncounted` meets its contract: a table of zeros.
use mathlib.Core.Path.{refl}
use Rattle.solve.proofs.Solving.{uncounted_run_lem}
use Rattle.solve.proofs.uncounted.Goals as goal

pub returns : goal.returns
returns c = uncounted_run_lem refl
