-- `row_sums::sum_row` meets its contract.
use Rattle.matrix.proofs.matrix.Turns.{row_faces_lem, sum_rowed}
use Rattle.matrix.proofs.row_sums.sum_row.Goals as goal

pub sum_faces-requires : goal.sum_faces-requires
sum_faces-requires c =
    record { kernel_ok = c.requires.kernel_ok; rows_in_bounds = c.requires.rows_in_bounds; row_lt_rows = c.requires.row_lt_rows; hi_bound = row_faces_lem c.requires.kernel_ok c.requires.row_lt_rows c.wide-hi.ensures }

pub returns : goal.returns
returns c =
    sum_rowed c.wide-lo.ensures c.wide-hi.ensures c.sum_faces.ensures
