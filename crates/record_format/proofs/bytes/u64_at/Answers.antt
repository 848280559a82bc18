use Rattle.record_format.proofs.Reading.{long_is}
use Rattle.record_format.proofs.bytes.u64_at.Goals as goal

pub returns : goal.returns
returns c = search (long_is)
