-- `questions::asked` asks questions 1 to 7, then 9, whose charges do not wrap where 1 and 6 passed.
use Rattle.refusal.proofs.Outcome.{passed_up}
use Rattle.build.proofs.questions.Passing.{charge_ok}
use Rattle.build.proofs.questions.Chains.{asked_on, asked_no}
use Rattle.build.proofs.questions.asked.Goals as goal

pub room_asked-requires : goal.room_asked-requires
room_asked-requires c = charge_ok c.arrays_asked.ensures c.in_ok-arrays_asked.was

pub returns : goal.returns
returns c = asked_on c.arrays_asked.ensures c.in_ok-arrays_asked.was c.room_asked.ensures

pub returns-in_err-arrays_asked : goal.returns-in_err-arrays_asked
returns-in_err-arrays_asked c =
    rw (passed_up _ c.from_residual.ensures.1) (asked_no c.arrays_asked.ensures c.in_err-arrays_asked.was)
