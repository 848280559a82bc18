use Rattle.roots.proofs.Replay.{Word}
use Rattle.roots.proofs.word.Given as goal

abbrev pub invariant-loop-c : goal.invariant-loop-c
invariant-loop-c l = Word l.s l.at l.c-index l.value
