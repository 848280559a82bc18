-- `iterating::iterate` meets its contract. The loop's invariant: what is left of the iterations gives the whole.
use Rattle.refusal.proofs.Outcome.{passed_up}
use Rattle.iterations.proofs.iterating.Iterations.{iterating_start, iterating_ok, iterating_on, iterating_yes, iterating_no, iterating_end}
use Rattle.iterations.proofs.iterating.iterate.Goals as goal

pub loop-done-init : goal.loop-done-init
loop-done-init c = iterating_start _ c.requires

pub step-requires : goal.step-requires
step-requires c = iterating_ok _ c.requires c.loop-done.invariant

pub returns-then-last-limits : goal.returns-then-last-limits
returns-then-last-limits c = iterating_yes _ c.requires c.loop-done.invariant c.loop-done-test.true c.step.ensures c.in_ok-after.was c.if-last-limits.true c.report.ensures

pub loop-done-preserved : goal.loop-done-preserved
loop-done-preserved c = iterating_on _ c.requires c.loop-done.invariant c.loop-done-test.true c.step.ensures c.in_ok-after.was c.if-last-limits.false

pub returns-in_err-after : goal.returns-in_err-after
returns-in_err-after c =
    rw (passed_up _ c.from_residual.ensures.1) (iterating_no _ c.requires c.loop-done.invariant c.loop-done-test.true c.step.ensures c.in_err-after.was)

pub returns : goal.returns
returns c = iterating_end _ c.requires c.loop-done.invariant c.loop-done-test.false c.report-2.ensures
