use Rattle.load.proofs.Walk.{Counting}
use Rattle.load.proofs.laying.entries_of.Given as goal

abbrev pub invariant-loop-i : goal.invariant-loop-i
invariant-loop-i l = Counting l.fn.e l.cells l.entries l.place l.i
