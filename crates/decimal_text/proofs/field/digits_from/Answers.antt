-- `decimal_text::field::digits_from` meets its contract: what is left of the slice, read behind what was read, is the whole.
use Prim.Native.Nat.{ℕ, ◌+◌, ◌*◌, ◌^◌, min}
use native.Mathlib.Omega.{arith}
use mathlib.Core.Path.{sym, ap, ◌∙◌}
use Rattle.decimal_text.proofs.Digits.{digits_bad, digits_on, digits_end}
use Rattle.decimal_text.proofs.field.digits_from.Goals as goal

pub returns-then-not-is_ascii_digit : goal.returns-then-not-is_ascii_digit
returns-then-not-is_ascii_digit c = digits_bad c.args.n c.loop-b.number c.args.s.now c.loop-b.b-index c.loop-b.invariant.1 c.loop-b-test.true (sym c.if-not-is_ascii_digit.ensures.value)

pub loop-b-preserved : goal.loop-b-preserved
loop-b-preserved c = (
  omega (arith, c.appended-number.ensures),
  digits_on c.args.n c.loop-b.number c.args.s.now c.loop-b.b-index c.loop-b.invariant.1 c.loop-b-test.true (sym c.if-not-is_ascii_digit.ensures.value) (c.appended-number.ensures ∙ ap (λ (x : ℕ). min (c.loop-b.number * 10 + x) (10 ^ 19)) c.from.ensures),
)

pub returns : goal.returns
returns c = digits_end c.args.n c.loop-b.number c.args.s.now c.loop-b.b-index c.loop-b.invariant.1 c.loop-b-test.false c.loop-b.invariant.0
