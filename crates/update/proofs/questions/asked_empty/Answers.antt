-- `questions::asked_empty` meets its contract.
use Rattle.update.proofs.questions.Questions.{empty_passed, empty_refused}
use Rattle.update.proofs.questions.asked_empty.Goals as goal

pub returns-then-empty_pattern : goal.returns-then-empty_pattern
returns-then-empty_pattern c = empty_passed _ _ _ c.empty_pattern.ensures c.if-empty_pattern.true

pub returns-else-empty_pattern : goal.returns-else-empty_pattern
returns-else-empty_pattern c = empty_refused _ _ _ c.empty_pattern.ensures c.if-empty_pattern.false
