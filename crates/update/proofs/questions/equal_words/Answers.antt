-- `questions::equal_words` meets its contract. The loop's invariant: the answer so far is that of the words passed.
use Rattle.update.proofs.questions.Questions.{gathered_start, gathered_on, gathered_end}
use Rattle.update.proofs.questions.equal_words.Goals as goal

pub loop-k-init : goal.loop-k-init
loop-k-init c = gathered_start _ _ _

pub loop-k-preserved : goal.loop-k-preserved
loop-k-preserved c = gathered_on _ _ _ c.loop-k.invariant c.loop-k-test.true

pub returns : goal.returns
returns c = gathered_end _ _ _ c.loop-k.invariant c.loop-k-test.false
