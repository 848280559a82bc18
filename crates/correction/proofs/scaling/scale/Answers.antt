-- `scaling::scale` meets its contract: question 26, and then question 27.
use mathlib.Core.Bool.{not}
use mathlib.Core.Path.{ap}
use Rattle.correction.proofs.scaling.Scaling.{scale_bad, scale_good, scale_wide}
use Rattle.correction.proofs.scaling.scale.Goals as goal

pub returns-then-not-is_finite : goal.returns-then-not-is_finite
returns-then-not-is_finite c =
    let at_second = c in
    let at_first = at_second in
    scale_bad _ _ _ _ at_first.is_finite.ensures at_second.is_finite-2.ensures (ap not c.if-not-is_finite.true)

pub returns-then-is_finite : goal.returns-then-is_finite
returns-then-is_finite c =
    let at_quotient = c in
    let at_second = at_quotient in
    let at_first = at_second in
    scale_good _ _ _ _ at_first.is_finite.ensures at_second.is_finite-2.ensures _ _ (ap not at_quotient.if-not-is_finite.false) at_quotient.quotient-factor.ensures c.is_finite-3.ensures c.if-is_finite.true

pub returns-else-is_finite : goal.returns-else-is_finite
returns-else-is_finite c =
    let at_quotient = c in
    let at_second = at_quotient in
    let at_first = at_second in
    scale_wide _ _ _ _ at_first.is_finite.ensures at_second.is_finite-2.ensures _ _ (ap not at_quotient.if-not-is_finite.false) at_quotient.quotient-factor.ensures c.is_finite-3.ensures c.if-is_finite.false
