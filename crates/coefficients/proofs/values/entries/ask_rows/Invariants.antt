use Rattle.coefficients.proofs.values.UpdateLaws.{Asking}
use Rattle.coefficients.proofs.values.entries.ask_rows.Given as goal

abbrev pub invariant-loop-row : goal.invariant-loop-row
invariant-loop-row l = Asking l.level l.rows l.diagonal l.f l.row
