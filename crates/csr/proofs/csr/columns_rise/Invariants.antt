use Rattle.store.proofs.store.Each.{Passed}
use Rattle.csr.specs.Turns.{row_at}
use Rattle.csr.proofs.csr.columns_rise.Given as goal

abbrev pub invariant-loop-row : goal.invariant-loop-row
invariant-loop-row l = Passed (row_at l.rows l.offsets l.columns) l.rows l.row
