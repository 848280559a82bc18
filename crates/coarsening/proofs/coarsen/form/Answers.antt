-- `coarsen::form` meets its contract.
use Rattle.coarsening.proofs.coarsen.Forming.{pattern_ok, couple_ok, total_ok, formed}
use Rattle.coarsening.proofs.coarsen.form.Goals as goal

pub coarse_pattern-entries-requires : goal.coarse_pattern-entries-requires
coarse_pattern-entries-requires c = pattern_ok c.requires

pub couple-faces-requires : goal.couple-faces-requires
couple-faces-requires c =
    couple_ok c.requires c.coarse_pattern-entries.ensures

pub total-finite-requires : goal.total-finite-requires
total-finite-requires c =
    total_ok c.requires
    c.coarse_pattern-entries.ensures
    c.couple-faces.ensures

pub returns : goal.returns
returns c =
    formed
    c.requires
    c.coarse_pattern-entries.ensures
    c.couple-faces.ensures c.total-finite.ensures

pub shape_of-w : goal.shape_of-w
shape_of-w c = (returns c).words.size

pub shape_of-f : goal.shape_of-f
shape_of-f c = (returns c).floats.size
