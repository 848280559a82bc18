-- `decimal::read` meets its contract: the digits and the power of ten are exact, so that the one operation rounds their product or quotient.
use mathlib.Core.Path.{sym, ap, ◌∙◌}
use mathlib.Core.Bool.{Bool}
use Rattle.decimal.specs.Decimal.{value_of}
use Rattle.decimal.proofs.Value.{digits_fit, read_times, read_parts}
use Rattle.decimal.proofs.read.Goals as goal

pub int_to_float-x : goal.int_to_float-x
int_to_float-x c = digits_fit c.args.m c.requires.0

pub returns-then-negative : goal.returns-then-negative
returns-then-negative c =
    let s = c in
    read_parts s.args.m s.args.power c.power_of-t.result s.requires.0 c.power_of-t.ensures
    ∙ ap (λ (n : Bool). value_of s.args.m n s.args.power) (sym c.if-negative.true)

pub returns-else-negative : goal.returns-else-negative
returns-else-negative c =
    let s = c in
    read_times s.args.m s.args.power c.power_of-t.result s.requires.0 c.power_of-t.ensures
    ∙ ap (λ (n : Bool). value_of s.args.m n s.args.power) (sym c.if-negative.false)
