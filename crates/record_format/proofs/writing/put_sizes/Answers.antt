use Rattle.record_format.proofs.Placing.{sizes_written}
use Rattle.record_format.proofs.writing.put_sizes.Goals as goal

pub returns : goal.returns
returns c = search (sizes_written)
