-- `cholesky::seek` meets its contract. The loop's invariant: what is left to search gives the whole answer.
use Rattle.cholesky.proofs.Entries.{seek_start, seek_found, seek_on, seek_none}
use Rattle.cholesky.proofs.seek.Goals as goal

pub loop-e-init : goal.loop-e-init
loop-e-init c = seek_start _ _ _ _

pub returns-then-wide-column : goal.returns-then-wide-column
returns-then-wide-column c = search (seek_found)

pub loop-e-preserved : goal.loop-e-preserved
loop-e-preserved c = search (seek_on)

pub returns : goal.returns
returns c = search (seek_none)
