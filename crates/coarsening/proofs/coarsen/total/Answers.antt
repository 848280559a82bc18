-- `coarsen::total` meets its contract.
use Rattle.coarsening.proofs.coarsen.Forming.{totaled}
use Rattle.coarsening.proofs.coarsen.total.Goals as goal

pub sum_entries-requires : goal.sum_entries-requires
sum_entries-requires c = c.requires.sums

pub returns : goal.returns
returns c =
    totaled c.requires
    c.sum_entries.ensures
    c.symmetrize.ensures c.all_finite.ensures

pub shape_of-f : goal.shape_of-f
shape_of-f c = (returns c).kept.size
