use Rattle.record_format.proofs.Placing.{matrix_placed}
use Rattle.record_format.proofs.writing.put_matrix.Goals as goal

pub returns : goal.returns
returns c = search (matrix_placed)
