use Rattle.build_levels.proofs.growing.Growing.{Left}
use Rattle.build_levels.proofs.growing.grow.Given as goal

abbrev pub invariant-loop-g : goal.invariant-loop-g
invariant-loop-g l = Left l.initial.w l.w l.initial.f l.f l.x.options l.x.given l.x.workspace l.initial.at l.at

abbrev pub decreases-loop-g : goal.decreases-loop-g
decreases-loop-g l = l.at.more
