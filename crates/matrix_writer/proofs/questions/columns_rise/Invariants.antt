use Rattle.store.proofs.store.Each.{Passed}
use Rattle.csr.specs.Turns.{row_at}
use Rattle.matrix_writer.specs.Sized.{matrix_in}
use Rattle.matrix_writer.proofs.questions.columns_rise.Given as goal

abbrev pub invariant-loop-row : goal.invariant-loop-row
invariant-loop-row l = Passed (row_at l.source.arrays.rows (matrix_in l.source.arrays).offsets (matrix_in l.source.arrays).columns) l.source.arrays.rows l.row
