use Prim.Native.Nat.{◌-◌}
use Rattle.pattern.proofs.pattern.Gathering.{RowAt}
use Rattle.pattern.proofs.gathering.gather_row.Given as goal

abbrev pub invariant-loop-i : goal.invariant-loop-i
invariant-loop-i l = RowAt l.initial.w l.w l.c l.a l.i l.found

abbrev pub decreases-loop-i : goal.decreases-loop-i
decreases-loop-i l = l.rows - l.i
