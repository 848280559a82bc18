use Rattle.dic.proofs.dic.Dic.{Asking}
use Rattle.dic.proofs.dic.ask_reciprocals.Given as goal

abbrev pub invariant-loop-row : goal.invariant-loop-row
invariant-loop-row l = Asking l.level l.rows l.d l.f l.row
