-- `questions::arrays_asked` asks questions 1 to 3, then 4 to 7.
use Rattle.refusal.proofs.Outcome.{passed_up}
use Rattle.build.proofs.questions.Chains.{arrays_on, arrays_no}
use Rattle.build.proofs.questions.arrays_asked.Goals as goal

pub returns : goal.returns
returns c = arrays_on _ c.check_matrix.ensures c.in_ok-check_matrix.was c.weights_asked.ensures

pub returns-in_err-check_matrix : goal.returns-in_err-check_matrix
returns-in_err-check_matrix c =
    rw (passed_up _ c.from_residual.ensures.1) (arrays_no _ c.check_matrix.ensures c.in_err-check_matrix.was)
