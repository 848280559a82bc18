-- `advance::advance` meets its contract.
use Rattle.refusal.proofs.Outcome.{passed_up}
use Rattle.acceleration.proofs.directions.Passes.{asked_some, asked_none, asked_told}
use Rattle.acceleration.proofs.advance.Moved.{more_ok, advance_yes, advance_no}
use Rattle.acceleration.proofs.advance.advance.Goals as goal

pub more-requires : goal.more-requires
more-requires c = search (more_ok)

pub returns : goal.returns
returns c = advance_yes c.requires c.dot.ensures (asked_some _ _ c.ok_or.ensures.value c.in_ok-alpha.was) c.more.ensures

pub returns-in_err-alpha : goal.returns-in_err-alpha
returns-in_err-alpha c =
    rw (passed_up _ c.from_residual.ensures.1, asked_told _ c.ok_or.ensures.value c.in_err-alpha.was)
    (advance_no c.requires c.dot.ensures (asked_none _ _ c.ok_or.ensures.value c.in_err-alpha.was))
