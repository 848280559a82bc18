-- `matrix_writer::writer::write_checked` meets its contract: by whether the text fits.
use Rattle.matrix_writer.proofs.Done.{done_wrote, done_short}
use Rattle.matrix_writer.proofs.Record.{ready}
use Rattle.matrix_writer.proofs.writer.write_checked.Goals as goal

pub invariant_of-arrays : goal.invariant_of-arrays
invariant_of-arrays c = record { fits = (ready _ _ c.size_at-rows.ensures c.size_at-entries.ensures c.requires.asked).0 }

pub invariant_of-source : goal.invariant_of-source
invariant_of-source c = record { rows_in = (ready _ _ c.size_at-rows.ensures c.size_at-entries.ensures c.requires.asked).1 }

pub returns-then-size-out : goal.returns-then-size-out
returns-then-size-out c = done_wrote _ _ c.requires c.size_at-rows.ensures c.size_at-entries.ensures c.put_file-size.ensures c.if-size-out.true

pub returns : goal.returns
returns c = done_short _ _ c.requires c.size_at-rows.ensures c.size_at-entries.ensures c.put_file-size.ensures c.if-size-out.false c.zero_bytes.ensures
