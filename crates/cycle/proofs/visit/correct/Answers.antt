-- `visit::correct` meets its contract: scaled, or added as it is.
use Rattle.cycle.proofs.visit.Laws.{inner_on, prolong_ok, correct_scaled, plain_ok, correct_plain}
use Rattle.cycle.proofs.visit.correct.Goals as goal

pub prolong-requires : goal.prolong-requires
prolong-requires c = rw c.aggregates-map.ensures (prolong_ok c.requires)

pub correct_scaled-requires : goal.correct_scaled-requires
correct_scaled-requires c = inner_on c.requires c.prolong.ensures.size

pub returns-then-scale : goal.returns-then-scale
returns-then-scale c = correct_scaled c.requires (rw c.aggregates-map.ensures at c.prolong.ensures) c.args.sweeps c.if-scale.true c.correct_scaled.ensures

pub add_prolonged-requires : goal.add_prolonged-requires
add_prolonged-requires c = rw c.aggregates-map.ensures (plain_ok c.requires)

pub returns : goal.returns
returns c = correct_plain c.args.sweeps c.requires c.if-scale.false (rw c.aggregates-map.ensures at c.add_prolonged.ensures)
