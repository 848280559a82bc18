use Rattle.update_levels.proofs.diagonals.Standing.{Standing}
use Rattle.update_levels.proofs.diagonals.rows_stand.Given as goal

abbrev pub invariant-loop-row : goal.invariant-loop-row
invariant-loop-row l = Standing l.level l.w l.p l.row
