-- `aggregation::is_full` meets its contract: each way out is a case of the definition.
use Rattle.aggregation.proofs.Laws.{full_uncapped, full_free, full_sized}
use Rattle.aggregation.proofs.is_full.Goals as goal

pub returns-then-g-eq0 : goal.returns-then-g-eq0
returns-then-g-eq0 c = full_uncapped _ _ _ c.if-g-eq0.true

pub returns-then-g-c : goal.returns-then-g-c
returns-then-g-c c = full_free _ _ _ c.if-g-eq0.false c.wide-c.ensures c.if-g-c.true

pub returns : goal.returns
returns c = full_sized _ _ _ c.if-g-eq0.false c.wide-c.ensures c.if-g-c.false c.wide-size.ensures
