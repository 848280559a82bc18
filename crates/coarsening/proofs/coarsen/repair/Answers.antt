-- `coarsen::repair` meets its contract.
use Rattle.coarsening.proofs.coarsen.Stepping.{positions_ok, next_floats, next_ok, repaired}
use Rattle.coarsening.proofs.coarsen.repair.Goals as goal

pub form-r-requires : goal.form-r-requires
form-r-requires c = c.requires.step

pub copy-requires : goal.copy-requires
copy-requires c =
    positions_ok c.requires
    c.form-r.ensures

pub settle_words-requires : goal.settle_words-requires
settle_words-requires c =
    next_ok c.requires
    c.form-r.ensures
    c.copy.ensures

pub settle_floats-requires : goal.settle_floats-requires
settle_floats-requires c =
    next_floats
    c.requires
    c.form-r.ensures

pub returns : goal.returns
returns c =
    repaired
    c.requires
    c.form-r.ensures
    c.copy.ensures
    c.settle_words.ensures c.settle_floats.ensures

pub shape_of-w : goal.shape_of-w
shape_of-w c = (returns c).words.size

pub shape_of-f : goal.shape_of-f
shape_of-f c = (returns c).floats.size
