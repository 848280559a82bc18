-- `visit::down` meets its contract: one law for each way out.
use Rattle.refusal.proofs.Outcome.{passed_up}
use Rattle.cycle.proofs.visit.Laws.{inner_on, down_no, down_yes}
use Rattle.cycle.proofs.visit.down.Goals as goal

pub smooth-requires : goal.smooth-requires
smooth-requires c =
    let start = c in
    start.requires

pub restrict-requires : goal.restrict-requires
restrict-requires c =
    let at-smooth = c in
    let start = at-smooth in
    inner_on start.requires at-smooth.smooth.ensures.floats.size

pub returns-in_err-smooth : goal.returns-in_err-smooth
returns-in_err-smooth c = rw (passed_up _ c.from_residual.ensures.1) (down_no c.requires c.smooth.ensures c.in_err-smooth.was)

pub returns : goal.returns
returns c = down_yes c.requires c.smooth.ensures c.in_ok-smooth.was c.restrict.ensures
