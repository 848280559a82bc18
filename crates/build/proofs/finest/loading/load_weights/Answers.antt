-- `finest::loading::load_weights` copies the weights where they are given.
use Rattle.std.proofs.Common.{refl}
use Rattle.build.proofs.finest.Copies.{weights_none, weights_some}
use Rattle.build.proofs.finest.loading.load_weights.Goals as goal

pub load-requires : goal.load-requires
load-requires c = (rw c.in-Some.is at c.requires).room refl

pub returns-in-Some : goal.returns-in-Some
returns-in-Some c = rw c.in-Some.is (weights_some c.load.ensures)

pub returns-in_default : goal.returns-in_default
returns-in_default c = rw c.in_default.is (weights_none refl)
