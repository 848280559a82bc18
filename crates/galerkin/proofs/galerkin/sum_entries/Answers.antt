-- `galerkin::sum_entries` meets its contract: the sums are those of the values in front.
use Rattle.store.specs.Region.{part}
use Rattle.galerkin.specs.Values.{sums_of}
use Rattle.galerkin.proofs.galerkin.Region.{wrote_behind}
use Rattle.galerkin.proofs.galerkin.sum_entries.Goals as goal

pub returns : goal.returns
returns c =
    wrote_behind (sums_of c.args.total c.args.m (part c.args.positions c.args.m c.args.w.now)) _ c.args.values c.args.m
    c.split_at_mut-fine.ensures.value c.split_at_mut-fine.ensures.front_len c.requires.below c.sum_given.ensures
