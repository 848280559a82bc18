-- `building::call` meets its contract: what the build gave is published.
use Rattle.multigrid.proofs.building.Publishing.{new_done}
use Rattle.multigrid.proofs.building.call.Goals as goal

pub returns : goal.returns
returns c = new_done c.run-built.ensures c.publish.ensures
