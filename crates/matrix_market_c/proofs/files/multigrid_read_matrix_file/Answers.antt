-- `multigrid_read_matrix_file` makes the call and tells its answer.
use Rattle.matrix_market_c.proofs.Telling.{read_exported}
use Rattle.matrix_market_c.proofs.files.multigrid_read_matrix_file.Goals as goal

pub returns : goal.returns
returns c = search (read_exported)
