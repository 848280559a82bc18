-- `matrix_market::lines::leading_blanks` meets its contract: what is left of the slice has the blanks that the whole has.
use native.Mathlib.Omega.{arith}
use Rattle.matrix_market.proofs.Fields.{blanks_on, blanks_here, blanks_end}
use Rattle.matrix_market.proofs.lines.leading_blanks.Goals as goal

pub loop-i-preserved : goal.loop-i-preserved
loop-i-preserved c = blanks_on c.args.s.now c.loop-i.i c.loop-i.invariant c.loop-i-test.true c.if-not-x.false

pub returns-then-not-x : goal.returns-then-not-x
returns-then-not-x c = blanks_here c.args.s.now c.loop-i.i c.loop-i.invariant c.loop-i-test.true c.if-not-x.true

pub returns : goal.returns
returns c = omega (arith, c.loop-i.auto.i-end, blanks_end c.args.s.now c.loop-i.i c.loop-i.invariant c.loop-i-test.false)
