-- `float::is_positive` meets its contract.
use Rattle.float.specs.Float.{is_positive}
use Rattle.float.proofs.float.is_positive.Goals as goal

pub returns : goal.returns
unfolding is_positive
returns c = rw c.is_finite.ensures
