-- `multigrid_update_values` reads its struct, updates and tells the answer.
use Rattle.multigrid_c.proofs.Telling.{update_exported}
use Rattle.multigrid_c.proofs.calls.multigrid_update_values.Goals as goal

pub returns : goal.returns
returns c = update_exported c.args.hierarchy c.read_handle-handle.ensures c.update_values-updated.ensures c.tell_updated.ensures
