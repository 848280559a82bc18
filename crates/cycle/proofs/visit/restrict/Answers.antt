-- `visit::restrict` meets its contract.
use Rattle.cycle.proofs.visit.Laws.{restrict_ok, zeros_ok, restricted}
use Rattle.cycle.proofs.visit.restrict.Goals as goal

pub residual-requires : goal.residual-requires
residual-requires c = c.requires

pub restrict-requires : goal.restrict-requires
restrict-requires c = rw c.aggregates-map.ensures (restrict_ok c.requires c.residual.ensures c.residual_at-from.ensures)

pub fill-requires : goal.fill-requires
fill-requires c = zeros_ok c.requires c.residual.ensures c.residual_at-from.ensures (rw c.aggregates-map.ensures at c.restrict.ensures)

pub returns : goal.returns
returns c = restricted c.requires c.residual.ensures c.residual_at-from.ensures (rw c.aggregates-map.ensures at c.restrict.ensures) c.fill.ensures
