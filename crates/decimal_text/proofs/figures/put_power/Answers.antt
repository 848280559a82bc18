-- `decimal_text::figures::put_power` meets its contract: the e, its sign and its digits.
use Rattle.decimal_text.proofs.Writing.{power_off, power_on, sign_length}
use native.Mathlib.Omega.{arith}
use Rattle.decimal_text.proofs.figures.put_power.Goals as goal

pub returns-then-power-eq0 : goal.returns-then-power-eq0
returns-then-power-eq0 c = power_off c.args.negative c.args.power c.if-power-eq0.true

pub put_number-requires : goal.put_number-requires
put_number-requires c = omega (arith, c.put_byte-mark.ensures.next, c.put_minus-sign.ensures.next, sign_length c.args.negative)

pub returns : goal.returns
returns c = power_on c.args.negative c.args.power c.if-power-eq0.false c.put_byte-mark.ensures c.put_minus-sign.ensures c.put_number.ensures
