-- `gathering::gather_rows` meets its contract. The loop's invariant: the coarse rows before a have been gathered.
use Rattle.pattern.proofs.pattern.Gathering.{row_few, rows_on}
use native.Mathlib.Omega.{arith}
use Rattle.pattern.proofs.gathering.gather_rows.Goals as goal

pub overflow_cast-w : goal.overflow_cast-w
overflow_cast-w c = omega (
  arith,
  row_few c.gather_row-found.ensures
      c.loop-a-test.true,
)

pub loop-a-preserved : goal.loop-a-preserved
loop-a-preserved c = rows_on c.loop-a.invariant
    c.loop-a-test.true c.gather_row-found.ensures
