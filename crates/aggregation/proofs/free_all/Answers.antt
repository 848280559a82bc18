-- `aggregation::free_all` meets its contract.
use Rattle.aggregation.proofs.Laws.{all_free}
use Rattle.aggregation.proofs.free_all.Goals as goal

pub returns : goal.returns
returns c = all_free c.requires.rows_in_bounds c.fill.ensures c.fill-2.ensures
