use Prim.Native.Nat.{◌-◌}
use Rattle.decimal.proofs.Search.{Between}
use Rattle.decimal.proofs.reach.Given as goal

abbrev pub invariant-loop-low : goal.invariant-loop-low
invariant-loop-low l = Between l.v l.negative l.power l.low l.high

abbrev pub decreases-loop-low : goal.decreases-loop-low
decreases-loop-low l = l.high - l.low
