-- `questions::same_words` meets its contract.
use Rattle.update.proofs.questions.Questions.{words_differ, words_same}
use Rattle.update.proofs.questions.same_words.Goals as goal

pub returns-then-v-n : goal.returns-then-v-n
returns-then-v-n c =
    let start = c in
    words_differ start.args.w.now start.args.from start.args.v.now start.requires c.if-v-n.true

pub returns : goal.returns
returns c =
    let start = c in
    words_same start.args.w.now start.args.from start.args.v.now start.requires c.if-v-n.false c.equal_words.ensures
