-- `aggregation::pair_row` meets its contract: each way out is a case of the definition.
use Rattle.aggregation.proofs.Laws.{join_row, joins_in, join_free, row_assigned, row_paired, row_joined, row_alone}
use Rattle.aggregation.proofs.pair_row.Goals as goal

pub returns-then-w-g : goal.returns-then-w-g
returns-then-w-g c = row_assigned _ c.requires c.if-w-g.true

pub join-requires : goal.join-requires
join-requires c = join_row c.requires c.if-w-g.false c.requires.few

pub join-requires-then-s-none : goal.join-requires-then-s-none
join-requires-then-s-none c = join_free _ c.requires c.strongest-s.ensures c.join.ensures c.if-s-none.true c.wide.ensures

pub returns-then-s-none : goal.returns-then-s-none
returns-then-s-none c = row_paired _ c.requires c.strongest-s.ensures c.if-w-g.false c.if-s-none.true c.wide.ensures c.join.ensures c.join-then-s-none.ensures

pub join-requires-then-s-none-2 : goal.join-requires-then-s-none-2
join-requires-then-s-none-2 c = join_row c.requires c.if-w-g.false (joins_in _ c.requires c.strongest-s.ensures c.if-s-none-2.true)

pub returns-then-s-none-2 : goal.returns-then-s-none-2
returns-then-s-none-2 c = row_joined _ c.requires c.strongest-s.ensures c.if-w-g.false c.if-s-none.false c.if-s-none-2.true c.join-then-s-none-2.ensures

pub join-requires-2 : goal.join-requires-2
join-requires-2 c = join_row c.requires c.if-w-g.false c.requires.few

pub returns : goal.returns
returns c = row_alone _ c.requires c.strongest-s.ensures c.if-w-g.false c.if-s-none.false c.if-s-none-2.false c.join-2.ensures
