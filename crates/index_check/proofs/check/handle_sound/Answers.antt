-- `check::handle_sound` meets its contract.
use Rattle.index_check.proofs.check.Question.{handle_is}
use Rattle.index_check.proofs.check.handle_sound.Goals as goal

pub returns : goal.returns
returns c = handle_is _ c.controls_sound.ensures
