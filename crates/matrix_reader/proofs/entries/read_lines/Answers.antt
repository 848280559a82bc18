-- `matrix_reader::entries::read_lines` meets its contract: what is left to read gives what the whole gives.
use Rattle.matrix_reader.proofs.Lines.{reading_start, reading_none, reading_surplus, line_ok, reading_malformed, reading_bad, reading_on}
use mathlib.Core.Path.{◌≡◌}
use native.Mathlib.Omega.{arith}
use borrow.Author.Rules.{rules}
use Rattle.std.specs.Prelude.{Err}
use Rattle.matrix_market.specs.declared.entries.EntryError.{EntryError}
use Rattle.matrix_reader.proofs.entries.read_lines.Goals as goal

pub loop-line-init : goal.loop-line-init
loop-line-init c = reading_start c.requires

pub returns-then-m-stated : goal.returns-then-m-stated
returns-then-m-stated c = reading_surplus c.requires c.loop-line.invariant c.in-Some.ensures (omega arith)

pub read_line-s-requires : goal.read_line-s-requires
read_line-s-requires c = line_ok c.requires c.loop-line.invariant c.in-Some.ensures (omega arith)

pub returns-in-Err-Malformed : goal.returns-in-Err-Malformed
returns-in-Err-Malformed c =
    let e : c.read_line-s.result ≡ Err EntryError.Malformed = search rules in
    reading_malformed c.requires c.loop-line.invariant c.in-Some.ensures (omega arith) c.read_line-s.ensures e

pub returns-in-Err-BadValue : goal.returns-in-Err-BadValue
returns-in-Err-BadValue c =
    let e : c.read_line-s.result ≡ Err EntryError.BadValue = search rules in
    reading_bad c.requires c.loop-line.invariant c.in-Some.ensures (omega arith) c.read_line-s.ensures e

pub loop-line-preserved : goal.loop-line-preserved
loop-line-preserved c = reading_on c.requires c.loop-line.invariant c.in-Some.ensures (omega arith) c.read_line-s.ensures c.in-Ok.is (omega arith) (omega arith) (omega arith)

pub returns : goal.returns
returns c = reading_none c.requires c.loop-line.invariant c.in_default.ensures
