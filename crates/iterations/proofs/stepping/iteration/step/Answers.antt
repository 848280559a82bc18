-- `stepping::iteration::step` meets its contract: the zero correction, the cycle, and what follows.
use Rattle.refusal.proofs.Outcome.{passed_up}
use Rattle.iterations.proofs.stepping.Advancing.{fill_ok, start_ok, after_ok, step_on, step_no}
use Rattle.iterations.proofs.stepping.iteration.step.Goals as goal

pub fill-requires : goal.fill-requires
fill-requires c = fill_ok c.requires

pub cycle-requires : goal.cycle-requires
cycle-requires c = start_ok _ c.requires c.fill.ensures

pub advance-requires : goal.advance-requires
advance-requires c = after_ok _ c.requires c.fill.ensures c.cycle.ensures c.in_ok-cycle.was

pub returns : goal.returns
returns c = step_on _ c.requires c.fill.ensures c.cycle.ensures c.in_ok-cycle.was c.advance.ensures

pub returns-in_err-cycle : goal.returns-in_err-cycle
returns-in_err-cycle c =
    rw (passed_up _ c.from_residual.ensures.1) (step_no _ c.requires c.fill.ensures c.cycle.ensures c.in_err-cycle.was)
