-- `row::entries_sound` meets its contract.
use mathlib.Core.Path.{refl}
use Rattle.index_check.proofs.row.Laws.{entries_past, entries_no, entries_last, entries_on}
use Rattle.index_check.proofs.tables.Laws.{below_ok}
use native.Mathlib.Omega.{arith}
use Rattle.index_check.proofs.row.entries_sound.Goals as goal

pub returns-then-p-to : goal.returns-then-p-to
returns-then-p-to c = entries_past _ _ c.requires c.if-p-to.true

pub below-requires : goal.below-requires
below-requires c = record
    { fits = omega (arith, c.requires.level.columns, c.requires.rises); small = below_ok c.requires.level.rows }

pub returns-then-not-below : goal.returns-then-not-below
returns-then-not-below c = entries_no _ _ c.requires c.if-p-to.false refl
    c.below.ensures c.if-not-below.true

pub returns-then-t : goal.returns-then-t
returns-then-t c = entries_last _ _ c.requires
    c.if-p-to.false refl c.below.ensures c.if-not-below.false
    c.if-t.true

pub overflow_add-p-2 : goal.overflow_add-p-2
overflow_add-p-2 c = omega
    (arith, c.requires.level.positions c.if-t.false, c.requires.rises)

pub below-requires-2 : goal.below-requires-2
below-requires-2 c = record
    { fits = omega (arith, c.requires.level.positions c.if-t.false, c.requires.rises); small = c.requires.level.sums }

pub returns : goal.returns
returns c = entries_on _ _ c.requires
    c.if-p-to.false refl c.below.ensures
    c.if-not-below.false c.if-t.false c.below-2.ensures
