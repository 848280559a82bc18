-- `check::check` meets its contract.
use Rattle.index_check.proofs.check.Question.{check_empty, check_filled}
use Rattle.index_check.proofs.check.check.Goals as goal

pub returns-then-empty_sound : goal.returns-then-empty_sound
returns-then-empty_sound c = check_empty _ _ _ _ c.empty_sound.ensures c.if-empty_sound.true

pub returns : goal.returns
returns c = check_filled _ _ _ _ c.empty_sound.ensures c.if-empty_sound.false c.filled_sound.ensures
