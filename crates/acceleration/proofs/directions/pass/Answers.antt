-- `directions::pass` meets its contract. The loop's invariant: the pass over what is left gives the whole.
use native.Mathlib.Omega.{arith}
use Rattle.refusal.proofs.Outcome.{passed_up}
use Rattle.acceleration.proofs.directions.Passes.{passing_start, passing_within, passing_ok, passing_on, passing_no, passing_end}
use Rattle.acceleration.proofs.directions.pass.Goals as goal

pub loop-index-init : goal.loop-index-init
loop-index-init c = passing_start c.requires

pub step-requires : goal.step-requires
step-requires c = rw c.pair.ensures (passing_ok c.loop-index.invariant c.loop-index-test.true)

pub loop-index-preserved : goal.loop-index-preserved
loop-index-preserved c =
    passing_on c.loop-index.invariant c.loop-index-test.true (rw c.pair.ensures at c.step.ensures) c.in_ok-step.was

pub returns-in_err-step : goal.returns-in_err-step
returns-in_err-step c =
    rw (passed_up _ c.from_residual.ensures.1)
    (passing_no c.loop-index.invariant c.loop-index-test.true (rw c.pair.ensures at c.step.ensures) c.in_err-step.was)

pub returns : goal.returns
returns c = passing_end c.loop-index.invariant c.loop-index-test.false
