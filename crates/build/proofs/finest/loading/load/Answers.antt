-- `finest::loading::load` meets its contract: four regions that do not meet.
use Rattle.build.proofs.finest.Copies.{weights_room, loaded}
use Rattle.build.proofs.finest.loading.load.Goals as goal

pub load_weights-requires : goal.load_weights-requires
load_weights-requires c = weights_room c.requires c.load-3.ensures.size

pub returns : goal.returns
returns c = loaded c.requires c.load.ensures c.load-2.ensures c.load-3.ensures c.load_weights.ensures
