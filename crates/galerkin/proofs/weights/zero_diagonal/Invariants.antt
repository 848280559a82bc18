use Rattle.galerkin.proofs.galerkin.Turns.{Clearing}
use Rattle.galerkin.proofs.weights.zero_diagonal.Given as goal

abbrev pub invariant-loop-row : goal.invariant-loop-row
invariant-loop-row l = Clearing l.w l.s.count l.s.offsets l.s.columns l.s.entries l.out l.row l.initial.f l.f
