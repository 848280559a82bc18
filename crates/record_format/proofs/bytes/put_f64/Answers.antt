use Rattle.record_format.proofs.Written.{wrote_float}
use Rattle.record_format.proofs.bytes.put_f64.Goals as goal

pub returns : goal.returns
returns c = search (wrote_float)
