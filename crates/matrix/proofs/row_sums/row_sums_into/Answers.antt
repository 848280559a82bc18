-- `row_sums::row_sums_into` meets its contract.
use native.Mathlib.Omega.{arith}
use Rattle.matrix.proofs.matrix.Kernel.{sums_done}
use Rattle.matrix.proofs.row_sums.row_sums_into.Goals as goal

pub sum_rows-requires : goal.sum_rows-requires
sum_rows-requires c =
    record { kernel_ok = c.requires.kernel_ok; rows_in_bounds = omega (arith, c.copy.ensures.size, c.requires.rows_in_bounds) }

pub returns : goal.returns
returns c =
    sums_done c.requires.kernel_ok c.requires.rows_in_bounds c.copy.ensures c.sum_rows.ensures
