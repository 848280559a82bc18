-- `visit::up` meets its contract: one law for each way out.
use Rattle.refusal.proofs.Outcome.{passed_up}
use Rattle.cycle.proofs.visit.Laws.{inner_on, up_no, up_yes}
use Rattle.cycle.proofs.visit.up.Goals as goal

pub correct-requires : goal.correct-requires
correct-requires c = c.requires

pub smooth-requires : goal.smooth-requires
smooth-requires c = inner_on c.requires c.correct.ensures.floats.size

pub returns-in_err-correct : goal.returns-in_err-correct
returns-in_err-correct c =
    rw (passed_up _ c.from_residual.ensures.1)
    (up_no c.requires c.args.kind c.args.scale c.args.pre c.correct.ensures c.args.post c.in_err-correct.was)

pub returns : goal.returns
returns c = up_yes c.requires c.args.kind c.args.scale c.args.pre c.correct.ensures c.args.post c.in_ok-correct.was c.smooth.ensures
