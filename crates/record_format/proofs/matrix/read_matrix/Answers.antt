use Rattle.record_format.proofs.Records.{matrix_sizes, matrix_yes, matrix_no}
use Rattle.record_format.proofs.matrix.read_matrix.Goals as goal

pub lay_matrix-requires : goal.lay_matrix-requires
lay_matrix-requires c = search (matrix_sizes)

pub returns-then-matrix_ok : goal.returns-then-matrix_ok
returns-then-matrix_ok c = search (matrix_yes)

pub returns-else-matrix_ok : goal.returns-else-matrix_ok
returns-else-matrix_ok c = search (matrix_no)
