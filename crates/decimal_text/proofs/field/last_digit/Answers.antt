-- `decimal_text::field::last_digit` meets its contract: a digit's byte is at least that of 0.
use Rattle.decimal_text.proofs.Same.{digit_at, digit_low, last_none, last_some}
use lib.ListN.{get_or}
use native.Mathlib.Omega.{arith}
use Prim.Native.Nat.{◌-◌}
use mathlib.Core.Path.{refl}
use Rattle.decimal_text.proofs.field.last_digit.Goals as goal

pub returns-then-n-eq0 : goal.returns-then-n-eq0
returns-then-n-eq0 c = last_none c.args.s.now c.args.n c.if-n-eq0.true

pub overflow_sub-result-else-n-eq0 : goal.overflow_sub-result-else-n-eq0
overflow_sub-result-else-n-eq0 c = omega (arith, digit_low (get_or c.args.s.now (c.args.n - 1) 0) (digit_at c.args.s.now (c.args.n - 1) c.requires.digits (omega (arith, c.requires.within))))

pub returns-else-n-eq0 : goal.returns-else-n-eq0
returns-else-n-eq0 c = last_some c.args.s.now c.args.n c.if-n-eq0.false c.requires refl
