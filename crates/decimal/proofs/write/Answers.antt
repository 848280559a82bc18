-- `decimal::write` meets its contract: what the powers left give is what all give.
use mathlib.Core.Path.{refl}
use native.Mathlib.Omega.{arith}
use Rattle.decimal.proofs.Writing.{write_here, write_on, write_end}
use Rattle.decimal.proofs.write.Goals as goal

pub loop-power-init : goal.loop-power-init
loop-power-init c = refl

pub returns-in-Some : goal.returns-in-Some
returns-in-Some c = write_here c.args.v c.loop-power.power (omega arith) c.loop-power.invariant c.attempt.ensures c.in-Some.is

pub loop-power-preserved : goal.loop-power-preserved
loop-power-preserved c = write_on c.args.v c.loop-power.power (omega arith) c.loop-power.invariant c.attempt.ensures c.in_default.is

pub returns : goal.returns
returns c = write_end c.args.v c.loop-power.power (omega arith) c.loop-power.invariant
