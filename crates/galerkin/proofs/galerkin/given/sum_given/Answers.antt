-- `galerkin::given::sum_given` meets its contract.
use Rattle.galerkin.proofs.galerkin.Turns.{given_done}
use Rattle.galerkin.proofs.galerkin.given.sum_given.Goals as goal

pub returns : goal.returns
returns c = given_done _ c.requires c.fill.ensures c.add_given.ensures
