-- `cycle::count` meets its contract.
use Rattle.cycle.specs.Cycle.{count_of}
use Rattle.cycle.proofs.count.Goals as goal

pub returns : goal.returns
unfolding count_of
returns c = cc
