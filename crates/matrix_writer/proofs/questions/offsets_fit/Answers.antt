-- `matrix_writer::questions::offsets_fit` meets its contract: its tests are those of question 2.
use Rattle.matrix_writer.proofs.Record.{offsets_is}
use Rattle.matrix_writer.proofs.questions.offsets_fit.Goals as goal

pub returns : goal.returns
returns c = offsets_is _ _ _ c.offset_at-start.ensures c.offset_at-end.ensures c.never_fall.ensures
