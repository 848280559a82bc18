-- `decimal_text::field::mantissa_in` meets its contract: the whole digits, then those after the point.
use Rattle.decimal_text.proofs.Digits.{place_within, tail_part}
use Rattle.decimal_text.proofs.Value.{mantissa_none, mantissa_some}
use Rattle.decimal_text.specs.Field.{fraction_in}
use lib.Seq.{length-take-le}
use native.Mathlib.Omega.{arith}
use mathlib.Core.Path.{sym, ap, ◌∙◌}
use Rattle.decimal_text.proofs.field.mantissa_in.Goals as goal

pub overflow_add-point : goal.overflow_add-point
overflow_add-point c = omega (arith, c.find_either-point.ensures, place_within 46 46 c.args.s.now)

pub slice_bounds-digits_from-end : goal.slice_bounds-digits_from-end
slice_bounds-digits_from-end c = sym (length-take-le c.find_either-point.result c.args.s.now (omega (arith, c.find_either-point.ensures, place_within 46 46 c.args.s.now)))

pub returns-in_err-n : goal.returns-in_err-n
returns-in_err-n c = c.from_residual.ensures ∙ mantissa_none c.args.s.now c.find_either-point.ensures c.digits_from.ensures c.in_err-n.was

pub returns : goal.returns
returns c = mantissa_some c.args.s.now c.find_either-point.ensures c.digits_from.ensures c.in_ok-n.was (omega (arith, c.min-after.ensures)) (c.fraction_in.ensures ∙ ap (fraction_in c.in_ok-n.n c.find_either-point.result) (tail_part c.min-after.result c.args.s.now))
