-- `matrix_reader::file::read_matrix_file` meets its contract: zeros first, then what `convert` leaves of them.
use Rattle.matrix_reader.proofs.Converting.{zeroed}
use native.Mathlib.Omega.{arith}
use Rattle.matrix_reader.proofs.file.read_matrix_file.Goals as goal

pub returns : goal.returns
returns c = zeroed c.args.text.now c.args.rows.now c.args.columns.now c.args.values.now c.args.starts.now c.args.order.now c.args.links.now c.args.out.now c.zero_bytes.ensures (omega arith) c.convert.ensures
