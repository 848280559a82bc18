-- `matrix_reader::record::finish` meets its contract: the limit, the room, then the record.
use mathlib.Core.Path.{sym}
use Prim.Native.Nat.{◌+◌}
use lib.ListN.{take}
use lib.Seq.{length-take-le}
use Rattle.matrix_reader.specs.Writes.{ordered_matrix}
use Rattle.matrix_reader.proofs.Recorded.{finish_large, finish_short, finish_wrote, ordered_rows, ordered_entries, record_room}
use native.Mathlib.Omega.{arith}
use Rattle.matrix_reader.proofs.record.finish.Goals as goal

pub returns-then-total-gt1048576 : goal.returns-then-total-gt1048576
returns-then-total-gt1048576 c = finish_large c.args.out.now (ordered_matrix c.args.columns.now c.args.values.now (take (c.args.n + 1) c.args.starts.now) (take c.args.total c.args.order.now)) (omega (arith, ordered_entries c.requires))

pub returns-then-out-n : goal.returns-then-out-n
returns-then-out-n c = finish_short c.args.out.now (ordered_matrix c.args.columns.now c.args.values.now (take (c.args.n + 1) c.args.starts.now) (take c.args.total c.args.order.now)) (omega (arith, ordered_entries c.requires)) (omega (arith, ordered_entries c.requires, ordered_rows c.requires))

pub slice_bounds-write_record-end : goal.slice_bounds-write_record-end
slice_bounds-write_record-end c = sym (length-take-le (c.args.n + 1) c.args.starts.now c.requires.starts)

pub slice_bounds-write_record-end-2 : goal.slice_bounds-write_record-end-2
slice_bounds-write_record-end-2 c = sym (length-take-le c.args.total c.args.order.now c.requires.order)

pub write_record-length-requires : goal.write_record-length-requires
write_record-length-requires c = record_room c.requires _ (omega arith) (omega arith)

pub returns : goal.returns
returns c = finish_wrote c.args.out.now (ordered_matrix c.args.columns.now c.args.values.now (take (c.args.n + 1) c.args.starts.now) (take c.args.total c.args.order.now)) (omega (arith, ordered_entries c.requires)) (omega (arith, ordered_entries c.requires, ordered_rows c.requires)) c.write_record-length.ensures
