-- `decimal_text::field::same_number` meets its contract: what is left of the two is the same number where they are.
use Rattle.decimal_text.proofs.Same.{same_start, same_no, same_on, same_yes}
use native.Mathlib.Omega.{arith}
use Rattle.decimal_text.proofs.field.same_number.Goals as goal

pub loop-k-init : goal.loop-k-init
loop-k-init c = same_start c.args.a.now c.args.b.now

pub last_digit-d-requires : goal.last_digit-d-requires
last_digit-d-requires c = record { within = omega (arith, c.saturating_sub.ensures); digits = c.requires.0 }

pub last_digit-e-requires : goal.last_digit-e-requires
last_digit-e-requires c = record { within = omega (arith, c.saturating_sub-in-loop-k.ensures); digits = c.requires.1 }

pub returns-then-d-e : goal.returns-then-d-e
returns-then-d-e c = same_no c.loop-k.invariant c.saturating_sub.ensures c.saturating_sub-in-loop-k.ensures c.last_digit-d.ensures c.last_digit-e.ensures c.if-d-e.true

pub loop-k-preserved : goal.loop-k-preserved
loop-k-preserved c = same_on c.loop-k.invariant c.saturating_sub.ensures c.saturating_sub-in-loop-k.ensures c.last_digit-d.ensures c.last_digit-e.ensures c.if-d-e.false (omega arith) (omega arith)

pub returns : goal.returns
returns c = same_yes c.loop-k.invariant (omega (arith, c.max-longer.ensures))
