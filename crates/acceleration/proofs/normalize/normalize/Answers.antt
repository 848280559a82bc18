-- `normalize::normalize` meets its contract.
use Rattle.refusal.proofs.Outcome.{passed_up}
use Rattle.acceleration.proofs.directions.Passes.{asked_some, asked_none, asked_told}
use Rattle.acceleration.proofs.normalize.Normal.{first_ok, second_ok, normal_yes, normal_bad, normal_zero, normal_no, is_zero, not_zero}
use Rattle.acceleration.proofs.normalize.normalize.Goals as goal

pub over-requires : goal.over-requires
over-requires c = search (first_ok)

pub over-requires-2 : goal.over-requires-2
over-requires-2 c = search (second_ok)

pub returns-then-both_finite : goal.returns-then-both_finite
returns-then-both_finite c =
    normal_yes c.requires c.norm_l2.ensures (asked_some _ _ c.ok_or.ensures.value c.in_ok-norm.was) (not_zero _ c.if-norm.false) c.over.ensures c.over-2.ensures
    c.both_finite.ensures c.if-both_finite.true

pub returns-else-both_finite : goal.returns-else-both_finite
returns-else-both_finite c =
    normal_bad c.requires c.norm_l2.ensures (asked_some _ _ c.ok_or.ensures.value c.in_ok-norm.was) (not_zero _ c.if-norm.false) c.over.ensures c.over-2.ensures
    c.both_finite.ensures c.if-both_finite.false

pub returns-then-norm : goal.returns-then-norm
returns-then-norm c = normal_zero c.requires c.norm_l2.ensures (asked_some _ _ c.ok_or.ensures.value c.in_ok-norm.was) (is_zero _ c.if-norm.true)

pub returns-in_err-norm : goal.returns-in_err-norm
returns-in_err-norm c =
    rw (passed_up _ c.from_residual.ensures.1, asked_told _ c.ok_or.ensures.value c.in_err-norm.was)
    (normal_no c.requires c.norm_l2.ensures (asked_none _ _ c.ok_or.ensures.value c.in_err-norm.was))
