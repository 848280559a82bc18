-- `matrix_reader::file::has_room` meets its contract: the tests are those of the definition.
use Rattle.matrix_reader.proofs.Converting.{room_is}
use Rattle.matrix_reader.proofs.file.has_room.Goals as goal

pub returns : goal.returns
returns c = room_is (record { rows = c.args.rows; columns = c.args.columns; values = c.args.values; starts = c.args.starts; order = c.args.order; links = c.args.links; out = 0 }) c.args.h c.most_of-most.ensures
