-- `level::sum_values` meets its contract.
use mathlib.Core.Path.{ap}
use Rattle.std.specs.Prelude.{option_copied}
use Rattle.update_levels.proofs.level.sum_values.Goals as goal

pub sum_given-requires : goal.sum_given-requires
sum_given-requires c =
    let sums = c.requires.coarse_ok.sums in
    record { table = sums.table; many = c.requires.many c.in-Some.values.now (ap option_copied c.in-Some.is); room = sums.room; near = sums.near }

pub returns-in-Some : goal.returns-in-Some
returns-in-Some c = rw c.in-Some.is c.sum_given.ensures

pub sum_entries-requires : goal.sum_entries-requires
sum_entries-requires c = c.requires.coarse_ok.sums

pub returns-in-None : goal.returns-in-None
returns-in-None c = rw c.in-None.is c.sum_entries.ensures
