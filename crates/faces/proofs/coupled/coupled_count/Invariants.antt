use Rattle.faces.proofs.faces.Coupling.{Coupling}
use Rattle.faces.proofs.coupled.coupled_count.Given as goal

abbrev pub invariant-loop-row : goal.invariant-loop-row
invariant-loop-row l = Coupling l.w l.s l.row l.count
