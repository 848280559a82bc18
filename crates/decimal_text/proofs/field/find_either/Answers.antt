-- `decimal_text::field::find_either` meets its contract: what is left of the slice has the place that the whole has.
use native.Mathlib.Omega.{arith}
use Rattle.decimal_text.proofs.Digits.{place_here, place_on, place_none}
use Rattle.decimal_text.proofs.field.find_either.Goals as goal

pub returns-then-x-a : goal.returns-then-x-a
returns-then-x-a c = place_here c.args.a c.args.b c.args.s.now c.loop-i.i c.loop-i.invariant c.loop-i-test.true c.if-x-a.true

pub loop-i-preserved : goal.loop-i-preserved
loop-i-preserved c = place_on c.args.a c.args.b c.args.s.now c.loop-i.i c.loop-i.invariant c.loop-i-test.true c.if-x-a.false

pub returns : goal.returns
returns c = omega (arith, c.loop-i.auto.i-end, place_none c.args.a c.args.b c.args.s.now c.loop-i.i c.loop-i.invariant c.loop-i-test.false)
