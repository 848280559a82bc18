use Rattle.index_check.proofs.sound.Sizes.{Scratching}
use Rattle.index_check.proofs.sound.scratch.scratch_end.Given as goal

abbrev pub invariant-loop-level : goal.invariant-loop-level
invariant-loop-level l = Scratching l.w l.levels l.s l._level l.a l.end
