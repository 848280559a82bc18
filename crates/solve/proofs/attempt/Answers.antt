-- `solve::attempt` meets its contract: question 22, question 23, and the iterations.
use mathlib.Core.Path.{◌∙◌, sym}
use Rattle.refusal.proofs.Outcome.{passed_up}
use Rattle.acceleration.proofs.directions.Passes.{asked_some, asked_none, asked_told}
use Rattle.iterations.proofs.stepping.Placing.{vectors}
use Rattle.solve.proofs.Solving.{factor_ok, norm_ok, iterate_ok, attempt_none, attempt_bad, attempt_done, attempt_on}
use Rattle.solve.proofs.attempt.Goals as goal

pub renew-requires : goal.renew-requires
renew-requires c = vectors c.requires.ready

pub normalization-factor-requires : goal.normalization-factor-requires
normalization-factor-requires c = factor_ok _ c.requires.ready c.renew.ensures

pub returns-then-not-is_finite : goal.returns-then-not-is_finite
returns-then-not-is_finite c = attempt_none _ c.requires.ready c.renew.ensures c.normalization-factor.ensures c.requires.zeros _ (sym c.is_finite.ensures ∙ c.if-not-is_finite.true)

pub measure-requires : goal.measure-requires
measure-requires c = norm_ok _ c.requires.ready c.renew.ensures

pub returns-then-initial-threshold : goal.returns-then-initial-threshold
returns-then-initial-threshold c =
    attempt_done _ c.requires.ready c.renew.ensures c.normalization-factor.ensures c.requires.zeros _ (sym c.is_finite.ensures ∙ c.if-not-is_finite.false) c.measure.ensures
    (asked_some _ _ c.ok_or.ensures.value c.in_ok-initial.was) c.threshold-threshold.ensures c.if-initial-threshold.true c.report.ensures

pub iterate-requires : goal.iterate-requires
iterate-requires c = iterate_ok _ c.requires.ready c.renew.ensures

pub returns : goal.returns
returns c =
    attempt_on _ c.requires.ready c.renew.ensures c.normalization-factor.ensures c.requires.zeros _ (sym c.is_finite.ensures ∙ c.if-not-is_finite.false) c.measure.ensures
    (asked_some _ _ c.ok_or.ensures.value c.in_ok-initial.was) c.threshold-threshold.ensures c.if-initial-threshold.false c.iterate.ensures

pub returns-in_err-initial : goal.returns-in_err-initial
returns-in_err-initial c =
    rw (passed_up _ c.from_residual.ensures.1, asked_told _ c.ok_or.ensures.value c.in_err-initial.was)
    (attempt_bad _ c.requires.ready c.renew.ensures c.normalization-factor.ensures c.requires.zeros _ (sym c.is_finite.ensures ∙ c.if-not-is_finite.false) c.measure.ensures
    (asked_none _ _ c.ok_or.ensures.value c.in_err-initial.was))
