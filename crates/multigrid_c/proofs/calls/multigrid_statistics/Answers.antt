-- `multigrid_statistics` reads its struct, asks and tells the answer.
use Rattle.multigrid_c.proofs.Telling.{count_exported}
use Rattle.multigrid_c.proofs.calls.multigrid_statistics.Goals as goal

pub returns : goal.returns
returns c = count_exported c.args.hierarchy c.read_handle-handle.ensures c.statistics-counted.ensures c.tell_counted.ensures
