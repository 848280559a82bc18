-- `multigrid_write_matrix_file` makes the call and tells its answer.
use Rattle.matrix_market_c.proofs.Telling.{write_exported}
use Rattle.matrix_market_c.proofs.files.multigrid_write_matrix_file.Goals as goal

pub returns : goal.returns
returns c = search (write_exported)
