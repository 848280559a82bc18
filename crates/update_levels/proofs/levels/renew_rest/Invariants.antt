use Prim.Native.Nat.{◌-◌}
use Rattle.update_levels.proofs.levels.Renewing.{Underway}
use Rattle.update_levels.proofs.levels.renew_rest.Given as goal

abbrev pub invariant-loop-level : goal.invariant-loop-level
invariant-loop-level l = Underway l.dic l.levels l.first l.start l.initial.p l.level l.a l.p l.w l.initial.f l.f

abbrev pub decreases-loop-level : goal.decreases-loop-level
decreases-loop-level l = l.levels - l.level
