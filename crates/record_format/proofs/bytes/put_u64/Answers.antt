use Rattle.record_format.proofs.Written.{wrote_long}
use Rattle.record_format.proofs.bytes.put_u64.Goals as goal

pub returns : goal.returns
returns c = search (wrote_long)
