-- `coarsen::weigh` meets its contract.
use Rattle.coarsening.proofs.coarsen.Stepping.{weighed, unweighed}
use Rattle.coarsening.proofs.coarsen.weigh.Goals as goal

pub restrict_weights-requires : goal.restrict_weights-requires
restrict_weights-requires c = c.requires

pub returns-then-x : goal.returns-then-x
returns-then-x c = weighed c.requires c.restrict_weights.ensures

pub shape_of-f : goal.shape_of-f
shape_of-f c = (returns-then-x c).kept.size

pub returns-else-x : goal.returns-else-x
returns-else-x c = unweighed c.if-x.false
