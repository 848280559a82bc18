use Rattle.record_format.proofs.Reading.{word_is}
use Rattle.record_format.proofs.bytes.u32_at.Goals as goal

pub returns : goal.returns
returns c = search (word_is)
