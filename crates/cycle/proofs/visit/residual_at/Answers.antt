-- `visit::residual_at` meets its contract.
use Rattle.cycle.proofs.visit.Laws.{at_none, at_some}
use Rattle.cycle.proofs.visit.residual_at.Goals as goal

pub returns-then-sweeps-eq0 : goal.returns-then-sweeps-eq0
returns-then-sweeps-eq0 c = at_none c.args.v c.if-sweeps-eq0.true

pub returns-else-sweeps-eq0 : goal.returns-else-sweeps-eq0
returns-else-sweeps-eq0 c = at_some c.args.v c.if-sweeps-eq0.false
