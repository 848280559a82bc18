use Prim.Native.Nat.{◌-◌}
use Rattle.matrix_writer.proofs.Search.{Bisected}
use Rattle.matrix_writer.specs.Sized.{matrix_in}
use Rattle.matrix_writer.proofs.questions.lower_bound.Given as goal

abbrev pub invariant-loop-low : goal.invariant-loop-low
invariant-loop-low l = Bisected (matrix_in l.arrays).columns l.first l.last l.column l.low l.high

abbrev pub decreases-loop-low : goal.decreases-loop-low
decreases-loop-low l = l.high - l.low
