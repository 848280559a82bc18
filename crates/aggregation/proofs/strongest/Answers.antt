-- `aggregation::strongest` meets its contract. The loop's invariant: what is left of the row gives its choice.
use Rattle.aggregation.proofs.Laws.{column_below, choosing_start, choosing_on, choosing_end}
use native.Mathlib.Omega.{arith}
use Rattle.aggregation.proofs.strongest.Goals as goal

pub loop-entry-init : goal.loop-entry-init
loop-entry-init c = choosing_start c.requires c.wide-start.ensures c.wide-end.ensures

pub index_at-column-requires : goal.index_at-column-requires
index_at-column-requires c = record {
  k_in_bounds = omega (arith, c.loop-entry.invariant.most, c.loop-entry-test.true, c.requires.graph.columns, c.requires.graph.map);
  k_bound = column_below c.requires.graph c.loop-entry.invariant c.loop-entry-test.true;
}

pub loop-entry-preserved : goal.loop-entry-preserved
loop-entry-preserved c =
    choosing_on c.requires c.loop-entry.invariant c.loop-entry-test.true c.index_at-column.ensures.value c.index_at-column.ensures.upper_bound
    c.strength-weight.ensures c.is_full-full.ensures c.consider-s.ensures

pub returns : goal.returns
returns c = choosing_end c.loop-entry.invariant c.loop-entry-test.false
