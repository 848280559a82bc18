-- `csr::offsets_fit` meets its contract.
use Rattle.csr.proofs.csr.Walk.{offsets_no, offsets_on}
use Rattle.csr.proofs.csr.offsets_fit.Goals as goal

pub returns-then-offsets-rows : goal.returns-then-offsets-rows
returns-then-offsets-rows c = search (offsets_no)

pub returns : goal.returns
returns c = search (offsets_on)
