use Rattle.store.proofs.store.Each.{Passed}
use Rattle.csr.specs.Turns.{step_ok}
use Rattle.csr.proofs.csr.never_fall.Given as goal

abbrev pub invariant-loop-row : goal.invariant-loop-row
invariant-loop-row l = Passed (step_ok l.offsets) l.rows l.row
