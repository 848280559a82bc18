-- `cholesky::cholesky` meets its contract.
use Rattle.cholesky.proofs.Rows.{cholesky_done}
use Rattle.cholesky.proofs.cholesky.Goals as goal

pub returns : goal.returns
returns c = search (cholesky_done)
