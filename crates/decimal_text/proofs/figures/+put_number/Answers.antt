-- `decimal_text::figures::put_number` meets its contract: the digits of a tenth, and then the last one.
use Rattle.std.proofs.Common.{arith, ◌/◌}
use Rattle.decimal_text.proofs.Writing.{number_one, number_more, figures_length}
use Rattle.decimal_text.proofs.figures.+put_number.Goals as goal

pub returns-then-n-lt10 : goal.returns-then-n-lt10
returns-then-n-lt10 t c = number_one c.args.n c.if-n-lt10.true c.digit_byte.ensures c.put_byte.ensures

pub put_byte-requires-2 : goal.put_byte-requires-2
put_byte-requires-2 t c = omega (arith, figures_length 19 (c.args.n / 10), c.put_number-next.ensures.next)

pub returns : goal.returns
returns t c = number_more c.args.n c.if-n-lt10.false (omega arith) c.put_number-next.ensures c.digit_byte-2.ensures c.put_byte-2.ensures
