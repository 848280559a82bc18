use Rattle.record_format.proofs.Written.{wrote_word}
use Rattle.record_format.proofs.bytes.put_u32.Goals as goal

pub returns : goal.returns
returns c = search (wrote_word)
