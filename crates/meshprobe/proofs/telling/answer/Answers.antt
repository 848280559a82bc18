-- `answer` gives the number of a refusal, and writes its place.
use Rattle.meshprobe.proofs.telling.answer.Goals as goal

pub returns-in-Err : goal.returns-in-Err
returns-in-Err c =
    rw c.in-Err.is (record { is = c.refuse.ensures.value; place = c.refuse.ensures.place_after })
