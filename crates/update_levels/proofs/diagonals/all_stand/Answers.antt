-- `diagonals::all_stand` meets its contract. The loop's invariant: the answer so far is that of the rows passed.
use Rattle.update_levels.proofs.diagonals.Standing.{gathered_start, gathered_row, gathered_on, gathered_end}
use Rattle.update_levels.proofs.diagonals.all_stand.Goals as goal

pub loop-row-init : goal.loop-row-init
loop-row-init c = gathered_start c.requires

pub diagonal_stands-ok-requires : goal.diagonal_stands-ok-requires
diagonal_stands-ok-requires c = gathered_row c.loop-row.invariant c.loop-row-test.true

pub loop-row-preserved : goal.loop-row-preserved
loop-row-preserved c = gathered_on c.loop-row.invariant c.loop-row-test.true c.diagonal_stands-ok.ensures

pub returns : goal.returns
returns c = gathered_end c.loop-row.invariant c.loop-row-test.false
