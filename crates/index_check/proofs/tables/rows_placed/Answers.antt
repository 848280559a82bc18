-- `tables::rows_placed` meets its contract.
use Rattle.index_check.proofs.tables.Laws.{rows_told}
use Rattle.index_check.proofs.tables.rows_placed.Goals as goal

pub two_rise-rise-requires : goal.two_rise-rise-requires
two_rise-rise-requires c =
    record { n_in_bounds = c.requires.offsets; n_in_bounds_2 = c.requires.starts }

pub below-requires : goal.below-requires
below-requires c = record { fits = c.requires.diagonals; small = c.requires.entries }

pub returns : goal.returns
returns c = rows_told _ _ c.requires c.two_rise-rise.ensures c.below.ensures
