use Rattle.matrix_writer.proofs.Laying.{CountTo}
use Rattle.matrix_writer.specs.Text.{row_triplets}
use Rattle.matrix_writer.specs.Sized.{matrix_in}
use Rattle.matrix_writer.proofs.lines.count_written.Given as goal

abbrev pub invariant-loop-row : goal.invariant-loop-row
invariant-loop-row l = CountTo (row_triplets l.source.symmetric (matrix_in l.source.arrays)) l.source.arrays.rows l.row l.n
