-- `acceleration::orthogonalize` meets its contract.
use Rattle.refusal.proofs.Outcome.{passed_up}
use Rattle.acceleration.proofs.acceleration.Twice.{twice_yes, twice_no}
use Rattle.acceleration.proofs.acceleration.orthogonalize.Goals as goal

pub returns : goal.returns
returns c = twice_yes c.requires c.pass.ensures c.in_ok-pass.was c.pass-2.ensures

pub returns-in_err-pass : goal.returns-in_err-pass
returns-in_err-pass c = rw (passed_up _ c.from_residual.ensures.1) (twice_no c.requires c.pass.ensures c.in_err-pass.was)
