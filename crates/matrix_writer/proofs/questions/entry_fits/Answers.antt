-- `matrix_writer::questions::entry_fits` meets its contract: the last entry of a row has no next one.
use Rattle.matrix_writer.proofs.Asking.{entry_both}
use Rattle.csr.proofs.csr.Walk.{entry_last}
use Rattle.matrix_writer.proofs.questions.entry_fits.Goals as goal

pub returns-then-last-e : goal.returns-then-last-e
returns-then-last-e c = search (entry_last)

pub returns : goal.returns
returns c = search (entry_both)
