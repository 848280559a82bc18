-- `matrix_writer::questions::entry_verdict` meets its contract: 39 is asked before 40.
use mathlib.Core.Bool.{not}
use mathlib.Core.Path.{ap}
use Rattle.matrix_writer.proofs.Record.{stands_within, stands_inside, entry_bad, entry_general, entry_mirrored, entry_alone}
use Rattle.matrix_writer.proofs.questions.entry_verdict.Goals as goal

pub value_at-value-requires : goal.value_at-value-requires
value_at-value-requires c =
    stands_within c.requires.sound c.requires.stands_in

pub returns-then-not-is_writable : goal.returns-then-not-is_writable
returns-then-not-is_writable c = entry_bad _ _ _ _ c.value_at-value.ensures c.is_writable.ensures (ap not c.if-not-is_writable.true)

pub returns-then-not-source : goal.returns-then-not-source
returns-then-not-source c = entry_general _ _ _ _ c.value_at-value.ensures c.is_writable.ensures (ap not c.if-not-is_writable.false) (ap not c.if-not-source.true)

pub column_at-column-requires : goal.column_at-column-requires
column_at-column-requires c =
    stands_within c.requires.sound c.requires.stands_in

pub has_mirror-requires : goal.has_mirror-requires
has_mirror-requires c =
    record { sound = c.requires.sound; column_lt_rows = (stands_inside c.requires.sound c.requires.stands_in c.column_at-column.ensures, stands_within c.requires.sound c.requires.stands_in) }

pub returns-then-has_mirror : goal.returns-then-has_mirror
returns-then-has_mirror c = entry_mirrored _ _ _ _ c.value_at-value.ensures c.is_writable.ensures (ap not c.if-not-is_writable.false) (ap not c.if-not-source.false) c.column_at-column.ensures c.has_mirror.ensures c.if-has_mirror.true

pub returns-else-has_mirror : goal.returns-else-has_mirror
returns-else-has_mirror c = entry_alone _ _ _ _ c.value_at-value.ensures c.is_writable.ensures (ap not c.if-not-is_writable.false) (ap not c.if-not-source.false) c.column_at-column.ensures c.has_mirror.ensures c.if-has_mirror.false
