use Rattle.record_format.proofs.Placing.{values_space, values_written, values_unwritten}
use Rattle.std.proofs.Common.{◌≡◌, Ok}
use Rattle.refusal.proofs.Outcome.{passed_up}
use Rattle.record_format.proofs.writing.write_values.Goals as goal

pub put_values-requires : goal.put_values-requires
put_values-requires c = let e : c.values_room.result ≡ Ok tt = c.in_ok-values_room.was in search (values_space)

pub returns : goal.returns
returns c = let e : c.values_room.result ≡ Ok tt = c.in_ok-values_room.was in search (values_written)

pub returns-in_err-values_room : goal.returns-in_err-values_room
returns-in_err-values_room c =
    let e = c.in_err-values_room.was in
    rw (passed_up _ c.from_residual.ensures.1) (search (values_unwritten))
