-- `visit::residual` meets its contract: the right-hand side itself, or the right-hand side less the product.
use Rattle.cycle.proofs.visit.Laws.{resided_none, product_ok, subtract_ok, resided_some}
use Rattle.cycle.proofs.visit.residual.Goals as goal

pub returns-then-sweeps-eq0 : goal.returns-then-sweeps-eq0
returns-then-sweeps-eq0 c = resided_none _ _ _ c.if-sweeps-eq0.true

pub apply-requires : goal.apply-requires
apply-requires c =
    let pair = product_ok c.requires in
    record { kernel_ok = pair.0; rows_bound = pair.1.0; rows_in_bounds = pair.1.1 }

pub subtract-requires : goal.subtract-requires
subtract-requires c = subtract_ok c.requires c.apply.ensures

pub returns : goal.returns
returns c = resided_some c.requires c.apply.ensures c.if-sweeps-eq0.false c.subtract.ensures
