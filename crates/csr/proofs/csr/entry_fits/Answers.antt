-- `csr::entry_fits` meets its contract.
use Rattle.csr.proofs.csr.Walk.{entry_last, entry_next}
use Rattle.csr.proofs.csr.entry_fits.Goals as goal

pub returns-then-last-entry : goal.returns-then-last-entry
returns-then-last-entry c = search (entry_last)

pub returns : goal.returns
returns c = search (entry_next)
