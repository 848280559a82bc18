use Rattle.galerkin.proofs.galerkin.Turns.{Averaging}
use Rattle.galerkin.proofs.galerkin.symmetrize.Given as goal

abbrev pub invariant-loop-k : goal.invariant-loop-k
invariant-loop-k l = Averaging l.w l.faces l.upper l.lower l.total l.values l.k l.initial.f l.f
