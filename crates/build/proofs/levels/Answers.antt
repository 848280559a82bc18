-- `build::levels` meets its contract: the levels from the frontier on, then the row sums behind them.
use Rattle.refusal.proofs.Outcome.{passed_up}
use Rattle.build.proofs.Whole.{grown_sums, grown_made, grown_refused}
use Rattle.build.proofs.levels.Goals as goal

pub grow-requires : goal.grow-requires
grow-requires c = rw c.frontier.ensures c.requires.frontier

pub sums-requires : goal.sums-requires
sums-requires c = grown_sums c.requires c.frontier.ensures c.grow.ensures c.in_ok-grown.was

pub returns : goal.returns
returns c = grown_made c.requires c.frontier.ensures c.grow.ensures c.in_ok-grown.was c.sums.ensures

pub returns-in_err-grown : goal.returns-in_err-grown
returns-in_err-grown c =
    rw (passed_up _ c.from_residual.ensures.1)
    (grown_refused c.requires c.frontier.ensures c.grow.ensures c.in_err-grown.was)
