-- The rows that are left, laid over what stands in the table, give the whole.
use Rattle.multigrid.proofs.building.Reading.{Reading}
use Rattle.multigrid.proofs.building.cells.Given as goal

abbrev pub invariant-loop-k : goal.invariant-loop-k
invariant-loop-k l = Reading l.words l.levels l.table l.a l.k
