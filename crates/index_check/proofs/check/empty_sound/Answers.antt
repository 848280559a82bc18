-- `check::empty_sound` meets its contract.
use Rattle.index_check.proofs.check.Question.{empty_is}
use Rattle.index_check.proofs.check.empty_sound.Goals as goal

pub returns : goal.returns
returns c = empty_is _ c.controls_sound.ensures
