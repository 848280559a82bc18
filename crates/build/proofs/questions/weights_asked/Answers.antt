-- `questions::weights_asked` asks questions 4 and 5 where weights are given, then 6 and 7.
use Rattle.std.proofs.Common.{refl}
use Rattle.refusal.proofs.Outcome.{passed_up}
use Rattle.build.proofs.questions.Chains.{weighed_none, weighed_on, weighed_no}
use Rattle.build.proofs.questions.weights_asked.Goals as goal
use Rattle.build.proofs.questions.weights_asked.Goals.{in-Some+in_ok-check_weights, in_default}

pub returns : goal.returns
returns c = elim c.match-x.branch [
  | in-Some+in_ok-check_weights w ↦ rw w.in-Some.is (weighed_on refl w.check_weights.ensures w.in_ok-check_weights.was c.check_controls.ensures)
  | in_default w ↦ rw w.in_default.is (weighed_none refl c.check_controls.ensures)
]

pub returns-in_err-check_weights : goal.returns-in_err-check_weights
returns-in_err-check_weights c =
    rw (passed_up _ c.from_residual.ensures.1, c.in-Some.is) (weighed_no refl c.check_weights.ensures c.in_err-check_weights.was)
