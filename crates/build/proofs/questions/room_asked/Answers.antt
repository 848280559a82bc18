-- `questions::room_asked` asks question 9.
use Rattle.build.proofs.questions.Chains.{room_short, room_enough}
use Rattle.build.proofs.questions.room_asked.Goals as goal

pub returns-then-paid-finest : goal.returns-then-paid-finest
returns-then-paid-finest c = room_enough _ _ _ _ _ _ c.vectors-vectors.ensures c.square-factor.ensures c.if-paid-finest.true

pub returns : goal.returns
returns c = room_short _ _ _ _ _ _ c.vectors-vectors.ensures c.square-factor.ensures c.if-paid-finest.false
