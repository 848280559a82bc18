use Rattle.record_format.proofs.Placing.{mark_written}
use Rattle.record_format.proofs.writing.put_mark.Goals as goal

pub returns : goal.returns
returns c = mark_written _ c.letters.ensures c.put_byte.ensures c.put_byte-2.ensures
