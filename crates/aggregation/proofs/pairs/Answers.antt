-- `aggregation::pairs` meets its contract. The loop's invariant: what is left of the turns gives the whole.
use Rattle.aggregation.proofs.Laws.{walking_start, row_ok, walking_on, walking_end}
use Rattle.aggregation.proofs.pairs.Goals as goal

pub loop-index-init : goal.loop-index-init
loop-index-init c = walking_start c.requires c.free_all.ensures

pub pair_row-count-requires : goal.pair_row-count-requires
pair_row-count-requires c = row_ok c.loop-index.invariant c.loop-index-test.true c.row_at-row.ensures

pub loop-index-preserved : goal.loop-index-preserved
loop-index-preserved c = walking_on c.loop-index.invariant c.loop-index-test.true c.row_at-row.ensures c.pair_row-count.ensures

pub returns : goal.returns
returns c = walking_end c.free_all.ensures c.loop-index.invariant c.loop-index-test.false
