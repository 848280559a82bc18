-- `stepping::iteration::renew` meets its contract: the product, then the subtraction.
use Rattle.iterations.proofs.stepping.Moving.{product_ok, subtract_ok, renewed}
use Rattle.iterations.proofs.stepping.iteration.renew.Goals as goal

pub apply-requires : goal.apply-requires
apply-requires c =
    let pair = product_ok c.requires in
    record { kernel_ok = pair.0; rows_bound = pair.1.0; rows_in_bounds = pair.1.1 }

pub subtract-requires : goal.subtract-requires
subtract-requires c = subtract_ok c.requires c.apply.ensures.size

pub returns : goal.returns
returns c = renewed c.requires c.apply.ensures c.subtract.ensures
