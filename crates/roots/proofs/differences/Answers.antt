-- `roots::differences` meets its contract: `count` of the first lines differ.
use native.Mathlib.Omega.{arith}
use Rattle.roots.proofs.Replay.{lines_start, lines_room, lines_on}
use Rattle.roots.proofs.differences.Goals as goal

pub loop-line-init : goal.loop-line-init
loop-line-init c = lines_start

pub overflow_add-count : goal.overflow_add-count
overflow_add-count c = omega (arith, lines_room _ _ c.loop-line.invariant c.loop-line-test.true c.differs-count.ensures)

pub loop-line-preserved : goal.loop-line-preserved
loop-line-preserved c =
    lines_on _ _ c.loop-line.invariant c.loop-line-test.true c.differs-count.ensures c.word.ensures c.word-in-loop-line.ensures
