use Rattle.faces.proofs.faces.Coupling.{Listing}
use Rattle.faces.proofs.coupled.coupled_rows.Given as goal

abbrev pub invariant-loop-row : goal.invariant-loop-row
invariant-loop-row l = Listing l.initial.w l.w l.s l.to l.row l.count
