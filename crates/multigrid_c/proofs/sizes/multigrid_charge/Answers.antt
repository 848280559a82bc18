-- `multigrid_charge` gives the sizes for the controls that the struct stands for.
use Rattle.multigrid_c.proofs.sizes.multigrid_charge.Goals as goal

pub returns : goal.returns
returns c = rw c.read_options-controls.ensures at c.store_sizes.ensures
