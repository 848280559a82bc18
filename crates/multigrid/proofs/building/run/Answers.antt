-- `building::run` meets its contract: a build, and then the rows of its levels.
use Rattle.std.proofs.Common.{refl}
use Rattle.multigrid.proofs.building.Builds.{cells_ok, ran_made, ran_refused}
use Rattle.multigrid.proofs.building.run.Goals as goal

pub cells-table-requires : goal.cells-table-requires
cells-table-requires c = cells_ok c.build.ensures c.in-Ok.is

pub returns-in-Ok : goal.returns-in-Ok
returns-in-Ok c = ran_made c.build.ensures c.in-Ok.is c.cells-table.ensures

pub returns-in-Err : goal.returns-in-Err
returns-in-Err c = ran_refused c.build.ensures c.in-Err.is refl
