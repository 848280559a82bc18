-- `matrix_reader::file::convert` meets its contract: one law for each way out.
use mathlib.Core.Path.{◌≡◌, sym}
use borrow.Author.Rules.{rules}
use Rattle.std.specs.Prelude.{Err}
use Rattle.matrix_reader.specs.declared.entries.LinesError.{LinesError}
use lib.Seq.{length-take-le}
use Rattle.refusal.proofs.Outcome.{passed_up}
use Rattle.matrix_reader.proofs.Converting.{convert_head, head_limits, convert_short, gather_ok, convert_malformed, bad_few, bad_room, convert_bad, convert_bad_repeated, all_room, columns_room, values_room_lem, convert_repeated, finish_room, convert_finish}
use native.Mathlib.Omega.{arith}
use Rattle.matrix_reader.proofs.file.convert.Goals as goal

pub has_room-requires : goal.has_room-requires
has_room-requires c = head_limits c.head_of.ensures c.args.rows.now c.args.columns.now c.args.values.now c.args.starts.now c.args.order.now c.args.links.now c.args.out.now _ c.in_ok-h.was

pub gather-lines-requires : goal.gather-lines-requires
gather-lines-requires c = gather_ok c.head_of.ensures c.args.rows.now c.args.columns.now c.args.values.now c.args.starts.now c.args.order.now c.args.links.now c.args.out.now _ c.in_ok-h.was c.has_room.ensures c.if-not-has_room.false

pub overflow_add-m : goal.overflow_add-m
overflow_add-m c =
    let e : c.gather-lines.result ≡ Err (LinesError.BadValue c.in-Err-BadValue.m) = search rules in
    omega (arith, bad_few c.head_of.ensures c.args.rows.now c.args.columns.now c.args.values.now c.args.starts.now c.args.order.now c.args.links.now c.args.out.now _ c.in_ok-h.was c.has_room.ensures c.if-not-has_room.false c.gather-lines.ensures (omega arith) (omega arith) (omega arith) _ e)

pub sort_entries-requires : goal.sort_entries-requires
sort_entries-requires c =
    let e : c.gather-lines.result ≡ Err (LinesError.BadValue c.in-Err-BadValue.m) = search rules in
    bad_room c.head_of.ensures c.args.rows.now c.args.columns.now c.args.values.now c.args.starts.now c.args.order.now c.args.links.now c.args.out.now _ c.in_ok-h.was c.has_room.ensures c.if-not-has_room.false c.gather-lines.ensures (omega arith) (omega arith) (omega arith) _ e

pub returns-then-sort_entries : goal.returns-then-sort_entries
returns-then-sort_entries c =
    let e : c.gather-lines.result ≡ Err (LinesError.BadValue c.in-Err-BadValue.m) = search rules in
    convert_bad c.head_of.ensures c.args.rows.now c.args.columns.now c.args.values.now c.args.starts.now c.args.order.now c.args.links.now c.args.out.now _ c.in_ok-h.was c.has_room.ensures c.if-not-has_room.false c.gather-lines.ensures (omega arith) (omega arith) (omega arith) _ e c.sort_entries.ensures c.if-sort_entries.true

pub sort_entries-requires-in-Ok : goal.sort_entries-requires-in-Ok
sort_entries-requires-in-Ok c = all_room c.head_of.ensures c.args.rows.now c.args.columns.now c.args.values.now c.args.starts.now c.args.order.now c.args.links.now c.args.out.now _ c.in_ok-h.was c.has_room.ensures c.if-not-has_room.false c.gather-lines.ensures (omega arith) (omega arith) (omega arith) _ c.in-Ok.is

pub slice_bounds-finish-end : goal.slice_bounds-finish-end
slice_bounds-finish-end c = columns_room c.head_of.ensures c.args.rows.now c.args.columns.now c.args.values.now c.args.starts.now c.args.order.now c.args.links.now c.args.out.now _ c.in_ok-h.was c.has_room.ensures c.if-not-has_room.false c.gather-lines.ensures (omega arith) (omega arith) (omega arith) _ c.in-Ok.is

pub slice_bounds-finish-end-then-sort_entries-2 : goal.slice_bounds-finish-end-then-sort_entries-2
slice_bounds-finish-end-then-sort_entries-2 c = sym (length-take-le _ _ (columns_room c.head_of.ensures c.args.rows.now c.args.columns.now c.args.values.now c.args.starts.now c.args.order.now c.args.links.now c.args.out.now _ c.in_ok-h.was c.has_room.ensures c.if-not-has_room.false c.gather-lines.ensures (omega arith) (omega arith) (omega arith) _ c.in-Ok.is))

pub slice_bounds-finish-end-then-sort_entries-2-2 : goal.slice_bounds-finish-end-then-sort_entries-2-2
slice_bounds-finish-end-then-sort_entries-2-2 c = values_room_lem c.head_of.ensures c.args.rows.now c.args.columns.now c.args.values.now c.args.starts.now c.args.order.now c.args.links.now c.args.out.now _ c.in_ok-h.was c.has_room.ensures c.if-not-has_room.false c.gather-lines.ensures (omega arith) (omega arith) (omega arith) _ c.in-Ok.is

pub slice_bounds-finish-end-then-sort_entries-2-3 : goal.slice_bounds-finish-end-then-sort_entries-2-3
slice_bounds-finish-end-then-sort_entries-2-3 c = sym (length-take-le _ _ (values_room_lem c.head_of.ensures c.args.rows.now c.args.columns.now c.args.values.now c.args.starts.now c.args.order.now c.args.links.now c.args.out.now _ c.in_ok-h.was c.has_room.ensures c.if-not-has_room.false c.gather-lines.ensures (omega arith) (omega arith) (omega arith) _ c.in-Ok.is))

pub finish-requires : goal.finish-requires
finish-requires c = finish_room c.head_of.ensures c.args.rows.now c.args.columns.now c.args.values.now c.args.starts.now c.args.order.now c.args.links.now c.args.out.now _ c.in_ok-h.was c.has_room.ensures c.if-not-has_room.false c.gather-lines.ensures (omega arith) (omega arith) (omega arith) _ c.in-Ok.is c.sort_entries-in-Ok.ensures c.if-sort_entries-2.true

pub returns-then-sort_entries-2 : goal.returns-then-sort_entries-2
returns-then-sort_entries-2 c = convert_finish c.head_of.ensures c.args.rows.now c.args.columns.now c.args.values.now c.args.starts.now c.args.order.now c.args.links.now c.args.out.now _ c.in_ok-h.was c.has_room.ensures c.if-not-has_room.false c.gather-lines.ensures (omega arith) (omega arith) (omega arith) _ c.in-Ok.is c.sort_entries-in-Ok.ensures c.if-sort_entries-2.true c.finish.ensures

pub returns-in_err-h : goal.returns-in_err-h
returns-in_err-h c =
    rw (passed_up _ c.from_residual.ensures.1) (convert_head c.head_of.ensures c.args.rows.now c.args.columns.now c.args.values.now c.args.starts.now c.args.order.now c.args.links.now c.args.out.now _ c.in_err-h.was)

pub returns-in-Err-Malformed : goal.returns-in-Err-Malformed
returns-in-Err-Malformed c =
    let e : c.gather-lines.result ≡ Err LinesError.Malformed = search rules in
    convert_malformed c.head_of.ensures c.args.rows.now c.args.columns.now c.args.values.now c.args.starts.now c.args.order.now c.args.links.now c.args.out.now _ c.in_ok-h.was c.has_room.ensures c.if-not-has_room.false c.gather-lines.ensures (omega arith) (omega arith) (omega arith) e

pub returns-else-sort_entries : goal.returns-else-sort_entries
returns-else-sort_entries c =
    let e : c.gather-lines.result ≡ Err (LinesError.BadValue c.in-Err-BadValue.m) = search rules in
    convert_bad_repeated c.head_of.ensures c.args.rows.now c.args.columns.now c.args.values.now c.args.starts.now c.args.order.now c.args.links.now c.args.out.now _ c.in_ok-h.was c.has_room.ensures c.if-not-has_room.false c.gather-lines.ensures (omega arith) (omega arith) (omega arith) _ e c.sort_entries.ensures c.if-sort_entries.false

pub returns-else-sort_entries-2 : goal.returns-else-sort_entries-2
returns-else-sort_entries-2 c = convert_repeated c.head_of.ensures c.args.rows.now c.args.columns.now c.args.values.now c.args.starts.now c.args.order.now c.args.links.now c.args.out.now _ c.in_ok-h.was c.has_room.ensures c.if-not-has_room.false c.gather-lines.ensures (omega arith) (omega arith) (omega arith) _ c.in-Ok.is c.sort_entries-in-Ok.ensures c.if-sort_entries-2.false

pub returns-then-not-has_room : goal.returns-then-not-has_room
returns-then-not-has_room c = convert_short c.head_of.ensures c.args.rows.now c.args.columns.now c.args.values.now c.args.starts.now c.args.order.now c.args.links.now c.args.out.now _ c.in_ok-h.was c.has_room.ensures c.if-not-has_room.true
