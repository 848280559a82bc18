-- `csr::never_fall` meets its contract. The loop's invariant: no row passed ends before it starts.
use Rattle.store.proofs.store.Each.{passed_start, passed_yes}
use Rattle.csr.specs.Questions.{never_fall}
use Rattle.csr.specs.Turns.{step_ok}
use Rattle.csr.proofs.csr.Walk.{step_on, step_no}
use Rattle.csr.proofs.csr.never_fall.Goals as goal

pub loop-row-init : goal.loop-row-init
loop-row-init c = passed_start _ _

pub loop-row-preserved : goal.loop-row-preserved
loop-row-preserved c = search (step_on)

pub returns-then-offsets-row : goal.returns-then-offsets-row
returns-then-offsets-row c = search (step_no)

pub returns : goal.returns
unfolding never_fall step_ok
returns c = search (passed_yes)
