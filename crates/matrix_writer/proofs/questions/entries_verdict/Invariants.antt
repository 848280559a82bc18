use Rattle.matrix_writer.proofs.Asking.{Asking}
use Rattle.matrix_writer.specs.Writing.{row_asked}
use Rattle.matrix_writer.specs.Sized.{matrix_in}
use Rattle.matrix_writer.proofs.questions.entries_verdict.Given as goal

abbrev pub invariant-loop-row : goal.invariant-loop-row
invariant-loop-row l = Asking (row_asked l.source.symmetric (matrix_in l.source.arrays)) l.source.arrays.rows l.row
