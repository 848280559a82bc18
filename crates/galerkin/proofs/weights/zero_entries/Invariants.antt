use Rattle.galerkin.proofs.galerkin.Turns.{Zeroing}
use Rattle.galerkin.proofs.weights.zero_entries.Given as goal

abbrev pub invariant-loop-e : goal.invariant-loop-e
invariant-loop-e l = Zeroing l.w l.row l.lo l.hi l.s.columns l.s.entries l.out l.e l.initial.f l.f
