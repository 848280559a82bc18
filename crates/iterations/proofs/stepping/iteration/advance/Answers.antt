-- `stepping::iteration::advance` meets its contract: the solution moved, its residual, and the norm.
use Rattle.refusal.proofs.Outcome.{passed_up}
use Rattle.acceleration.proofs.directions.Passes.{asked_some, asked_none, asked_told}
use Rattle.iterations.proofs.stepping.Placing.{move_ok}
use Rattle.iterations.proofs.stepping.Advancing.{renew_ok, measure_ok, advance_yes, advance_bad, advance_no}
use Rattle.iterations.proofs.stepping.iteration.advance.Goals as goal

pub move_solution-requires : goal.move_solution-requires
move_solution-requires c = move_ok c.requires.ready c.requires.fits

pub renew-requires : goal.renew-requires
renew-requires c = renew_ok c.requires c.move_solution.ensures.floats.size

pub measure-requires : goal.measure-requires
measure-requires c = measure_ok c.requires c.move_solution.ensures.floats.size c.renew.ensures.floats.size

pub returns : goal.returns
returns c =
    advance_yes _ c.requires c.move_solution.ensures c.in_ok-stored.was c.renew.ensures c.measure.ensures
    (asked_some _ _ c.ok_or.ensures.value c.in_ok-last.was)

pub returns-in_err-last : goal.returns-in_err-last
returns-in_err-last c =
    rw (passed_up _ c.from_residual-in_err-last.ensures.1, asked_told _ c.ok_or.ensures.value c.in_err-last.was)
    (advance_bad _ c.requires c.move_solution.ensures c.in_ok-stored.was c.renew.ensures c.measure.ensures
    (asked_none _ _ c.ok_or.ensures.value c.in_err-last.was))

pub returns-in_err-stored : goal.returns-in_err-stored
returns-in_err-stored c =
    rw (passed_up _ c.from_residual.ensures.1) (advance_no _ c.requires c.move_solution.ensures c.in_err-stored.was)
