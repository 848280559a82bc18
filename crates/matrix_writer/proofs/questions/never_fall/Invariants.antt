use Rattle.store.proofs.store.Each.{Passed}
use Rattle.csr.specs.Turns.{step_ok}
use Rattle.matrix_writer.specs.Sized.{matrix_in}
use Rattle.matrix_writer.proofs.questions.never_fall.Given as goal

abbrev pub invariant-loop-row : goal.invariant-loop-row
invariant-loop-row l = Passed (step_ok (matrix_in l.arrays).offsets) l.arrays.rows l.row
