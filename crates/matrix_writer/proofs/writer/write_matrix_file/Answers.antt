-- `matrix_writer::writer::write_matrix_file` meets its contract: by whether the record passed its questions.
use Rattle.std.proofs.Common.{◌≡◌, Ok}
use Rattle.refusal.proofs.Outcome.{passed_up}
use Rattle.matrix_writer.proofs.Done.{done_refused, ready_now, done_now}
use Rattle.matrix_writer.proofs.writer.write_matrix_file.Goals as goal

pub write_checked-requires : goal.write_checked-requires
write_checked-requires c =
    let passed : c.check_record.result ≡ Ok tt = c.in_ok-check_record.was in
    ready_now _ _ c.args.out.now c.zero_bytes.ensures c.check_record.ensures passed

pub returns-in_err-check_record : goal.returns-in_err-check_record
returns-in_err-check_record c =
    rw (passed_up _ c.from_residual.ensures.1) (done_refused _ _ _ c.zero_bytes.ensures c.check_record.ensures c.in_err-check_record.was)

pub returns : goal.returns
returns c = done_now _ _ _ c.zero_bytes.ensures c.check_record.ensures c.write_checked.ensures
