-- `directions::step` meets its contract.
use Rattle.refusal.proofs.Outcome.{passed_up}
use Rattle.acceleration.proofs.directions.Passes.{image_ok, direction_ok, asked_some, asked_none, asked_told, step_yes, step_no}
use Rattle.acceleration.proofs.directions.step.Goals as goal

pub lessen-requires : goal.lessen-requires
lessen-requires c = search (image_ok)

pub lessen-requires-2 : goal.lessen-requires-2
lessen-requires-2 c = search (direction_ok)

pub returns : goal.returns
returns c = step_yes c.requires c.dot.ensures (asked_some _ _ c.ok_or.ensures.value c.in_ok-beta.was) c.lessen.ensures c.lessen-2.ensures

pub returns-in_err-beta : goal.returns-in_err-beta
returns-in_err-beta c =
    rw (passed_up _ c.from_residual.ensures.1, asked_told _ c.ok_or.ensures.value c.in_err-beta.was)
    (step_no c.requires c.dot.ensures (asked_none _ _ c.ok_or.ensures.value c.in_err-beta.was))
