-- `diagonals::diagonals` meets its contract. The loop's invariant: the questions left give the answer, and the rows passed are written.
use Rattle.faces.proofs.faces.Asking.{asking_start, asking_entry, asking_yes, asking_no, asking_done}
use Rattle.faces.proofs.faces.Finding.{entry_there_lem}
use native.Mathlib.Omega.{arith}
use Rattle.faces.proofs.diagonals.diagonals.Goals as goal

pub loop-row-init : goal.loop-row-init
loop-row-init c = asking_start c.requires

pub entry_at-requires : goal.entry_at-requires
entry_at-requires c = asking_entry c.loop-row.invariant c.loop-row-test.true

pub overflow_cast-w : goal.overflow_cast-w
overflow_cast-w c = omega (
  arith,
  c.loop-row.invariant.ok.ordered.standing.less,
  (entry_there_lem (asking_entry c.loop-row.invariant c.loop-row-test.true).ordered c.in-Some.ensures).2,
)

pub loop-row-preserved : goal.loop-row-preserved
loop-row-preserved c = asking_yes c.loop-row.invariant c.loop-row-test.true c.in-Some.ensures

pub returns-in_default : goal.returns-in_default
returns-in_default c = asking_no c.loop-row.invariant c.loop-row-test.true c.in_default.ensures

pub returns : goal.returns
returns c = asking_done c.loop-row.invariant c.loop-row-test.false
