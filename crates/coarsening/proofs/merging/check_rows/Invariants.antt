use Rattle.coarsening.proofs.merging.Questions.{Asking}
use Rattle.coarsening.proofs.merging.check_rows.Given as goal

abbrev pub invariant-loop-row : goal.invariant-loop-row
invariant-loop-row l = Asking l.level l.w l.f l.rows l.entries l.places l.values l.row
