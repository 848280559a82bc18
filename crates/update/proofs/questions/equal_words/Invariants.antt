use Rattle.update.proofs.questions.Questions.{Gathered}
use Rattle.update.proofs.questions.equal_words.Given as goal

abbrev pub invariant-loop-k : goal.invariant-loop-k
invariant-loop-k l = Gathered l.w l.from l.v l.k l.ok
