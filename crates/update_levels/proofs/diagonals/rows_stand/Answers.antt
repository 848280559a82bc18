-- `diagonals::rows_stand` meets its contract. The loop's invariant: the rows left give the answer.
use Rattle.update_levels.proofs.diagonals.Standing.{standing_start, standing_row, standing_on, standing_no, standing_done}
use Rattle.update_levels.proofs.diagonals.rows_stand.Goals as goal

pub loop-row-init : goal.loop-row-init
loop-row-init c = standing_start c.requires

pub diagonal_stands-requires : goal.diagonal_stands-requires
diagonal_stands-requires c = standing_row c.loop-row.invariant c.loop-row-test.true

pub loop-row-preserved : goal.loop-row-preserved
loop-row-preserved c = standing_on c.loop-row.invariant c.loop-row-test.true c.diagonal_stands.ensures c.if-not-diagonal_stands.false

pub returns-then-not-diagonal_stands : goal.returns-then-not-diagonal_stands
returns-then-not-diagonal_stands c = standing_no c.loop-row.invariant c.loop-row-test.true c.diagonal_stands.ensures c.if-not-diagonal_stands.true

pub returns : goal.returns
returns c = standing_done c.loop-row.invariant c.loop-row-test.false
