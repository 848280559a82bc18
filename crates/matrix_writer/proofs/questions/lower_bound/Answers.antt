-- `matrix_writer::questions::lower_bound` meets its contract: the loop's invariant: what is before low is below the column, and what is from high on is not.
use native.Mathlib.Omega.{arith}
use borrow.Author.Rules.{rules}
use Rattle.matrix_writer.proofs.Search.{bisect_start, bisect_up, bisect_down, bisect_done}
use Rattle.matrix_writer.proofs.questions.lower_bound.Goals as goal

pub loop-low-init : goal.loop-low-init
loop-low-init c = search (bisect_start, rules)

pub loop-low-preserved-then-here-column : goal.loop-low-preserved-then-here-column
loop-low-preserved-then-here-column c = bisect_up c.requires.rises c.loop-low.invariant (omega arith) (omega arith) c.column_at-here.ensures c.if-here-column.true

pub loop-low-preserved : goal.loop-low-preserved
loop-low-preserved c = bisect_down c.requires.rises c.loop-low.invariant (omega arith) (omega arith) c.column_at-here.ensures c.if-here-column.false

pub returns : goal.returns
returns c = search (bisect_done)
