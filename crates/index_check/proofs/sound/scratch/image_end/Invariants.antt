use Rattle.index_check.proofs.sound.Sizes.{Imaging}
use Rattle.index_check.proofs.sound.scratch.image_end.Given as goal

abbrev pub invariant-loop-level : goal.invariant-loop-level
invariant-loop-level l = Imaging l.w l.levels l._level l.a l.b
