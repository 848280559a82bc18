use Rattle.record_format.proofs.Written.{wrote_byte}
use Rattle.record_format.proofs.bytes.put_byte.Goals as goal

pub returns : goal.returns
returns c = wrote_byte _ _ _
