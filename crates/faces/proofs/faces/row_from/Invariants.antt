use Prim.Native.Nat.{◌-◌}
use Rattle.faces.proofs.faces.Seeking.{Seeking}
use Rattle.faces.proofs.faces.row_from.Given as goal

abbrev pub invariant-loop-end : goal.invariant-loop-end
invariant-loop-end l = Seeking l.w l.s l.e l.row l.end

abbrev pub decreases-loop-end : goal.decreases-loop-end
decreases-loop-end l = l.s.rows - l.row
