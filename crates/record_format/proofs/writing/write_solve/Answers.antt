use Rattle.record_format.proofs.Placing.{solve_space, solve_written, solve_unwritten}
use Rattle.std.proofs.Common.{◌≡◌, Ok}
use Rattle.refusal.proofs.Outcome.{passed_up}
use Rattle.record_format.proofs.writing.write_solve.Goals as goal

pub put_solve-requires : goal.put_solve-requires
put_solve-requires c = let e : c.solve_room.result ≡ Ok tt = c.in_ok-solve_room.was in search (solve_space)

pub returns : goal.returns
returns c = let e : c.solve_room.result ≡ Ok tt = c.in_ok-solve_room.was in search (solve_written)

pub returns-in_err-solve_room : goal.returns-in_err-solve_room
returns-in_err-solve_room c =
    let e = c.in_err-solve_room.was in
    rw (passed_up _ c.from_residual.ensures.1) (search (solve_unwritten))
