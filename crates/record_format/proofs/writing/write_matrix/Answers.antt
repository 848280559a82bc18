use Rattle.record_format.proofs.Placing.{matrix_space, matrix_written, matrix_unwritten}
use Rattle.std.proofs.Common.{◌≡◌, Ok}
use Rattle.refusal.proofs.Outcome.{passed_up}
use Rattle.record_format.proofs.writing.write_matrix.Goals as goal

pub put_matrix-requires : goal.put_matrix-requires
put_matrix-requires c = let e : c.matrix_room.result ≡ Ok tt = c.in_ok-matrix_room.was in search (matrix_space)

pub returns : goal.returns
returns c = let e : c.matrix_room.result ≡ Ok tt = c.in_ok-matrix_room.was in search (matrix_written)

pub returns-in_err-matrix_room : goal.returns-in_err-matrix_room
returns-in_err-matrix_room c =
    let e = c.in_err-matrix_room.was in
    rw (passed_up _ c.from_residual.ensures.1) (search (matrix_unwritten))
