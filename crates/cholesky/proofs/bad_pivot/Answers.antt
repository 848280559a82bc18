-- `cholesky::bad_pivot` meets its contract.
use Rattle.cholesky.proofs.Rows.{pivot_told}
use Rattle.cholesky.proofs.bad_pivot.Goals as goal

pub returns : goal.returns
returns c = search (pivot_told)
