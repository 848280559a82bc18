use Rattle.update_levels.proofs.diagonals.Standing.{Gathered}
use Rattle.update_levels.proofs.diagonals.all_stand.Given as goal

abbrev pub invariant-loop-row : goal.invariant-loop-row
invariant-loop-row l = Gathered l.w l.p l.row l.ok
