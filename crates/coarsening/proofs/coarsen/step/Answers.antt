-- `coarsen::step` meets its contract.
use Rattle.coarsening.proofs.coarsen.Stepping.{weigh_ok, merged_ok, merged_floats, stepped}
use Rattle.coarsening.proofs.coarsen.step.Goals as goal

pub form-r-requires : goal.form-r-requires
form-r-requires c = c.requires

pub weigh-requires : goal.weigh-requires
weigh-requires c =
    weigh_ok c.requires
    c.form-r.ensures

pub settle_words-requires : goal.settle_words-requires
settle_words-requires c =
    merged_ok
    c.requires
    c.form-r.ensures

pub settle_floats-requires : goal.settle_floats-requires
settle_floats-requires c =
    merged_floats
    c.requires
    c.form-r.ensures
    c.weigh.ensures

pub returns : goal.returns
returns c =
    stepped
    c.requires
    c.form-r.ensures
    c.weigh.ensures
    c.settle_words.ensures c.settle_floats.ensures

pub shape_of-w : goal.shape_of-w
shape_of-w c = (returns c).words.size

pub shape_of-f : goal.shape_of-f
shape_of-f c = (returns c).floats.size
