-- `load::laying::entries_of` meets its contract. The loop's invariant: the entries of the cells passed are counted.
use Rattle.std.proofs.Common.{arith}
use Rattle.load.proofs.Walk.{deep_at, counting_start, counting_on}
use Rattle.load.proofs.laying.entries_of.Goals as goal

pub loop-i-init : goal.loop-i-init
loop-i-init c = counting_start c.requires.few c.requires.cells_value c.first-place.ensures.extents_kept c.first-place.ensures.number_value

pub width_of-entries-requires : goal.width_of-entries-requires
width_of-entries-requires c =
    let k = c.loop-i.invariant in
    record { z_lt_depth = deep_at c.loop-i.place k.box c.requires.cells_value (omega (arith, k.number)) }

pub loop-i-preserved : goal.loop-i-preserved
loop-i-preserved c = counting_on c.loop-i.invariant (omega arith) c.width_of-entries.ensures.value c.following-place.ensures.extents_kept c.following-place.ensures.number_value
