use Rattle.matrix.proofs.matrix.Turns.{Spreading}
use Rattle.matrix.proofs.spread.spread_rows.Given as goal

abbrev pub invariant-loop-row : goal.invariant-loop-row
invariant-loop-row g l = Spreading g.C.Combine.op l.w l.s l.x l.out l.initial.f l.row l.f l.lo
