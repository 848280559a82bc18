-- `visit::smooth` meets its contract.
use Rattle.cycle.proofs.visit.Laws.{smooth_ok, smooth_done}
use Rattle.cycle.proofs.visit.smooth.Goals as goal

pub smooth-requires : goal.smooth-requires
smooth-requires c = smooth_ok c.requires

pub returns : goal.returns
returns c = smooth_done c.args.w.now c.args.g _ _ c.smooth.ensures c.requires
