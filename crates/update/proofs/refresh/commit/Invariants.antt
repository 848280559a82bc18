use Prim.Native.Nat.{◌-◌}
use Rattle.update.proofs.refresh.Copying.{Copying}
use Rattle.update.proofs.refresh.commit.Given as goal

abbrev pub invariant-loop-level : goal.invariant-loop-level
invariant-loop-level l = Copying l.levels l.image l.end l.level l.a l.p l.w l.initial.f l.f

abbrev pub decreases-loop-level : goal.decreases-loop-level
decreases-loop-level l = l.levels - l.level
