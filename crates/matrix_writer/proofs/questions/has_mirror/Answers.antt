-- `matrix_writer::questions::has_mirror` meets its contract: the search tells whether there is an entry in the column, and which.
use Rattle.matrix_writer.proofs.Record.{range_rises}
use Rattle.matrix_writer.proofs.Search.{mirror_past, mirror_other, mirror_here}
use Rattle.matrix_writer.proofs.questions.has_mirror.Goals as goal

pub lower_bound-d-requires : goal.lower_bound-d-requires
lower_bound-d-requires c =
    record { span = record { order = c.range_at-first.ensures.order; within = c.range_at-first.ensures.within }; rises = range_rises c.requires.sound c.requires.column_lt_rows.0 c.range_at-first.ensures }

pub returns-then-last-d : goal.returns-then-last-d
returns-then-last-d c = mirror_past _ _ _ _ c.range_at-first.ensures c.lower_bound-d.ensures c.if-last-d.true

pub returns-then-other-row : goal.returns-then-other-row
returns-then-other-row c = mirror_other _ _ _ _ c.range_at-first.ensures c.lower_bound-d.ensures (range_rises c.requires.sound c.requires.column_lt_rows.0 c.range_at-first.ensures) c.if-last-d.false c.column_at-other.ensures c.if-other-row.true

pub returns : goal.returns
returns c = mirror_here _ _ _ _ c.range_at-first.ensures c.lower_bound-d.ensures (range_rises c.requires.sound c.requires.column_lt_rows.0 c.range_at-first.ensures) c.if-last-d.false c.column_at-other.ensures c.if-other-row.false c.value_at-mirror.ensures c.value_at-value.ensures
