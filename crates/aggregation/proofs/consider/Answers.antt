-- `aggregation::consider` meets its contract: each way out is a case of the definition.
use Rattle.aggregation.proofs.Steps.{own, free, free_no, skipped, adjacent, adjacent_no, considered_is}
use Rattle.aggregation.proofs.consider.Goals as goal

pub returns-then-column-row : goal.returns-then-column-row
returns-then-column-row c = considered_is (own c.if-column-row.true)

pub returns-then-weight-s : goal.returns-then-weight-s
returns-then-weight-s c = considered_is (free c.if-column-row.false c.if-cluster-none.true c.if-weight-s.true)

pub returns-then-cluster-none : goal.returns-then-cluster-none
returns-then-cluster-none c = considered_is (free_no c.if-column-row.false c.if-cluster-none.true c.if-weight-s.false)

pub returns-then-full : goal.returns-then-full
returns-then-full c = considered_is (skipped c.if-column-row.false c.if-cluster-none.false c.if-full.true)

pub returns-then-weight-s-2 : goal.returns-then-weight-s-2
returns-then-weight-s-2 c = considered_is (adjacent c.if-column-row.false c.if-cluster-none.false c.if-full.false c.if-weight-s-2.true)

pub returns : goal.returns
returns c = considered_is (adjacent_no c.if-column-row.false c.if-cluster-none.false c.if-full.false c.if-weight-s-2.false)
