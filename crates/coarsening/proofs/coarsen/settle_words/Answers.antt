-- `coarsen::settle_words` meets its contract.
use Rattle.coarsening.proofs.coarsen.Stepping.{settled}
use Rattle.coarsening.proofs.coarsen.settle_words.Goals as goal

pub returns : goal.returns
returns c =
    settled c.requires
    c.copy.ensures c.copy-2.ensures

pub shape_of-w : goal.shape_of-w
shape_of-w c = (returns c).kept.size
