use Rattle.load.proofs.Walk.{Laying}
use Rattle.load.proofs.laying.lay_cells.Given as goal

abbrev pub invariant-loop-i : goal.invariant-loop-i
invariant-loop-i l = Laying l.seed l.fn.e l.cells l.initial.offsets l.offsets l.initial.columns l.columns l.initial.values l.values l.reached l.place l.i
