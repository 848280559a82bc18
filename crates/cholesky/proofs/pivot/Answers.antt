-- `cholesky::pivot` meets its contract.
use Rattle.cholesky.proofs.Rows.{less_self, rest_done}
use Rattle.cholesky.proofs.pivot.Goals as goal

pub less-requires : goal.less-requires
less-requires c = search (less_self)

pub returns : goal.returns
returns c = search (rest_done)
