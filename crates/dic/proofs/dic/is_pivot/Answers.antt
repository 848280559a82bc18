-- `dic::is_pivot` meets its contract.
use Rattle.dic.specs.Dic.{is_pivot}
use Rattle.dic.proofs.dic.is_pivot.Goals as goal

pub returns : goal.returns
unfolding is_pivot
returns c = rw c.is_finite.ensures
