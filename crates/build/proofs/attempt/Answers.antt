-- `build::attempt` asks questions 1 to 9; where they passed it makes no levels of no rows, and else goes on.
use Rattle.refusal.proofs.Outcome.{passed_up}
use Rattle.build.proofs.Whole.{attempt_empty, attempt_on, attempt_no}
use Rattle.build.proofs.questions.Passing.{fitting}
use Rattle.build.proofs.attempt.Goals as goal

pub returns-then-x-eq0 : goal.returns-then-x-eq0
returns-then-x-eq0 c = attempt_empty _ _ c.asked.ensures c.in_ok-asked.was c.if-x-eq0.true c.empty.ensures

pub begin-requires : goal.begin-requires
begin-requires c = fitting c.asked.ensures c.in_ok-asked.was c.if-x-eq0.false

pub returns : goal.returns
returns c = attempt_on _ _ c.asked.ensures c.in_ok-asked.was c.if-x-eq0.false c.begin.ensures

pub returns-in_err-asked : goal.returns-in_err-asked
returns-in_err-asked c =
    rw (passed_up _ c.from_residual.ensures.1) (attempt_no _ _ c.asked.ensures c.in_err-asked.was)
