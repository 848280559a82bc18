-- `residual::residual` meets its contract.
use native.Mathlib.Omega.{arith}
use Rattle.matrix.proofs.matrix.Kernel.{vectors_ready, residual_done}
use borrow.Author.Rules.{rules}
use Rattle.matrix.proofs.residual.residual.Goals as goal

pub spread_rows-requires : goal.spread_rows-requires
spread_rows-requires c =
    vectors_ready c.requires.kernel_ok (omega arith) c.requires.rows_bound_2 c.requires.rows_in_bounds (search rules)

pub returns : goal.returns
returns c =
    residual_done c.requires.kernel_ok c.requires.rows_bound c.requires.rows_bound_2 c.requires.rows_in_bounds c.diagonal_residual.ensures c.spread_rows.ensures
