use Rattle.index_check.proofs.check.Walking.{Heads}
use Rattle.index_check.proofs.check.walk_heads.Given as goal

abbrev pub invariant-loop-level : goal.invariant-loop-level
invariant-loop-level l = Heads l.w l.levels l.level l.a
