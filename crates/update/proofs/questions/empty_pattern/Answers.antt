-- `questions::empty_pattern` meets its contract.
use Rattle.update.proofs.questions.Questions.{empty_other, empty_same}
use Rattle.update.proofs.questions.empty_pattern.Goals as goal

pub returns-then-x-ne1 : goal.returns-then-x-ne1
returns-then-x-ne1 c = empty_other _ _ _ c.if-x-ne1.true

pub returns : goal.returns
returns c = rw (c.is_empty.ensures, c.is_empty-2.ensures) (empty_same _ _ _ c.if-x-ne1.false)
