-- `store_sizes` gives the words, the floats and the records.
use Rattle.charge.specs.Charge.{sizes_for}
use Rattle.charge.proofs.store_sizes.Goals as goal

pub returns : goal.returns
unfolding sizes_for
returns c = rw (c.words_for.ensures, c.floats_for.ensures)
