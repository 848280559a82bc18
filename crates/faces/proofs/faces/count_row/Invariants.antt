use Rattle.faces.proofs.faces.Counting.{Counting}
use Rattle.faces.proofs.faces.count_row.Given as goal

abbrev pub invariant-loop-e : goal.invariant-loop-e
invariant-loop-e l = Counting l.w l.s l.row l.end l.e l.count
