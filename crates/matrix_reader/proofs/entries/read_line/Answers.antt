-- `matrix_reader::entries::read_line` meets its contract: the places of an entry are below the rows, with a value and without.
use mathlib.Core.Path.{◌≡◌}
use native.Mathlib.Omega.{arith}
use borrow.Author.Rules.{rules}
use Rattle.std.specs.Prelude.{Err}
use Rattle.matrix_market.specs.declared.placed.PlacedError.{PlacedError}
use Rattle.matrix_reader.proofs.Within.{entry_below, bad_below}
use Rattle.matrix_reader.proofs.entries.read_line.Goals as goal

pub overflow_cast-row : goal.overflow_cast-row
overflow_cast-row c =
    let e : c.entry_in.result ≡ Err (PlacedError.BadValue c.in-Err-BadValue.row c.in-Err-BadValue.column) = search rules in
    omega (arith, (bad_below c.args.line.now c.entry_in.ensures e).row, c.requires.few)

pub overflow_cast-column : goal.overflow_cast-column
overflow_cast-column c =
    let e : c.entry_in.result ≡ Err (PlacedError.BadValue c.in-Err-BadValue.row c.in-Err-BadValue.column) = search rules in
    omega (arith, (bad_below c.args.line.now c.entry_in.ensures e).column, c.requires.few)

pub overflow_cast-row-in-Ok : goal.overflow_cast-row-in-Ok
overflow_cast-row-in-Ok c = omega (arith, (entry_below c.args.line.now c.entry_in.ensures c.in-Ok.is).row, c.requires.few)

pub overflow_cast-column-in-Ok : goal.overflow_cast-column-in-Ok
overflow_cast-column-in-Ok c = omega (arith, (entry_below c.args.line.now c.entry_in.ensures c.in-Ok.is).column, c.requires.few)
