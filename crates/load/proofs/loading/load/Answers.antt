-- `load::loading::load` meets its contract.
use Rattle.load.proofs.loading.load.Goals as goal

pub returns : goal.returns
returns c = c.load_box.ensures
