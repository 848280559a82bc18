-- `load::cells::Place::faces` meets its contract.
use Rattle.load.proofs.cells.Places.{faces_are}
use Rattle.load.proofs.cells.Place.faces.Goals as goal

pub returns : goal.returns
returns c = faces_are c.args.self.few c.args.self.placed c.requires.z_lt_depth
