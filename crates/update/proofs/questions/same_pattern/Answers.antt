-- `questions::same_pattern` meets its contract.
use Rattle.update.proofs.questions.Questions.{pattern_same}
use Rattle.update.proofs.questions.same_pattern.Goals as goal

pub returns : goal.returns
returns c =
    pattern_same _ c.args.p _ _ _ c.same_words.ensures
    c.same_words-2.ensures
