-- `matrix_market::lines::next_line` meets its contract: what was passed does not count.
use mathlib.Core.Path.{sym, ◌∙◌}
use native.Mathlib.Omega.{arith}
use Rattle.matrix_market.proofs.Data.{same_start, found_here, same_on, found_none}
use Rattle.matrix_market.proofs.lines.next_line.Goals as goal

pub loop-from-init : goal.loop-from-init
loop-from-init c = same_start c.args.text.now c.args.at c.requires

pub returns-then-is_data : goal.returns-then-is_data
returns-then-is_data c = found_here c.loop-from.invariant c.line_at-line.ensures (sym c.is_data.ensures ∙ c.if-is_data.true)

pub loop-from-smaller : goal.loop-from-smaller
loop-from-smaller c = omega (arith, c.line_at-line.ensures.further, c.line_at-line.ensures.ahead)

pub loop-from-preserved : goal.loop-from-preserved
loop-from-preserved c = same_on c.loop-from.invariant c.line_at-line.ensures (sym c.is_data.ensures ∙ c.if-is_data.false)

pub returns : goal.returns
returns c = found_none c.loop-from.invariant (omega arith)
