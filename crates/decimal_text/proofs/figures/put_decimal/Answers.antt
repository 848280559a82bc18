-- `decimal_text::figures::put_decimal` meets its contract: the sign, the digits and the power.
use Rattle.decimal_text.proofs.Writing.{number_on, sign_length, figures_length}
use native.Mathlib.Omega.{arith}
use Rattle.decimal_text.proofs.figures.put_decimal.Goals as goal

pub put_number-digits-requires : goal.put_number-digits-requires
put_number-digits-requires c = omega (arith, c.put_minus-sign.ensures.next, sign_length c.args.minus)

pub put_power-requires : goal.put_power-requires
put_power-requires c = omega (arith, c.put_minus-sign.ensures.next, c.put_number-digits.ensures.next, sign_length c.args.minus, figures_length 19 c.args.m)

pub returns : goal.returns
returns c = number_on c.args.minus c.args.m c.args.negative c.args.power c.put_minus-sign.ensures c.put_number-digits.ensures c.put_power.ensures
