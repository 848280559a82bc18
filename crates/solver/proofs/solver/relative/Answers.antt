-- `solver::relative` meets its contract: its test is the definition's.
use Rattle.solver.specs.Solver.{relative_of}
use Rattle.solver.proofs.solver.relative.Goals as goal

pub returns-then-initial : goal.returns-then-initial
unfolding relative_of
returns-then-initial c = rw c.if-initial.true

pub returns-else-initial : goal.returns-else-initial
unfolding relative_of
returns-else-initial c = rw c.if-initial.false
