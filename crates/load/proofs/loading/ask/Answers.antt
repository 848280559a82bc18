-- `load::loading::ask` meets its contract.
use Rattle.std.proofs.Common.{arith}
use Rattle.load.proofs.loading.Asking.{few_of, asked_seed, asked_cells, asked_room, asked_short}
use Rattle.load.proofs.loading.ask.Goals as goal

pub returns-then-seed-eq0 : goal.returns-then-seed-eq0
returns-then-seed-eq0 c = asked_seed c.args.seed c.args.e _ c.if-seed-eq0.true

pub returns-then-cells-eq0 : goal.returns-then-cells-eq0
returns-then-cells-eq0 c = asked_cells c.args.seed c.args.e _ c.cells_of-cells.result c.cells_of-cells.ensures c.if-cells-eq0.true

pub entries_of-entries-requires : goal.entries_of-entries-requires
entries_of-entries-requires c =
    let pair = few_of c.args.e c.cells_of-cells.result c.cells_of-cells.ensures c.if-cells-eq0.false in
    record { few = pair.0; cells_value = pair.1 }

pub overflow_add-room : goal.overflow_add-room
overflow_add-room c =
    let few = few_of c.args.e c.cells_of-cells.result c.cells_of-cells.ensures c.if-cells-eq0.false in
    omega (arith, few.0.cells, few.1)

pub returns-then-room : goal.returns-then-room
returns-then-room c = asked_room c.args.seed c.args.e _ c.cells_of-cells.result c.entries_of-entries.result c.if-seed-eq0.false c.cells_of-cells.ensures c.if-cells-eq0.false c.entries_of-entries.ensures c.if-room.true

pub returns-else-room : goal.returns-else-room
returns-else-room c = asked_short c.args.seed c.args.e _ c.cells_of-cells.result c.entries_of-entries.result c.if-seed-eq0.false c.cells_of-cells.ensures c.if-cells-eq0.false c.entries_of-entries.ensures c.if-room.false
