use Rattle.matrix_market.proofs.Data.{SameData}
use lib.ListN.{length}
use Prim.Native.Nat.{◌-◌}
use Rattle.matrix_market.proofs.lines.next_line.Given as goal

abbrev pub invariant-loop-from : goal.invariant-loop-from
invariant-loop-from l = SameData l.text l.at l.from

abbrev pub decreases-loop-from : goal.decreases-loop-from
decreases-loop-from l = length l.text - l.from
