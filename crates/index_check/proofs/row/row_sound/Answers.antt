-- `row::row_sound` meets its contract.
use Rattle.index_check.proofs.row.Laws.{row_out, entries_rise, faces_rise, row_entries_lem, row_faces_lem, row_link}
use native.Mathlib.Omega.{arith}
use Rattle.index_check.proofs.row.row_sound.Goals as goal

pub row_placed-requires : goal.row_placed-requires
row_placed-requires c = c.requires

pub returns-then-not-row_placed : goal.returns-then-not-row_placed
returns-then-not-row_placed c = row_out _ _ c.requires c.row_placed.ensures c.if-not-row_placed.true

pub entries_sound-requires : goal.entries_sound-requires
entries_sound-requires c = entries_rise _ _ c.requires
    c.row_placed.ensures c.if-not-row_placed.false
    c.word_at-from.ensures c.word_at-to.ensures

pub returns-then-not-entries_sound : goal.returns-then-not-entries_sound
returns-then-not-entries_sound c = row_entries_lem _ _ c.requires
    c.row_placed.ensures
    c.if-not-row_placed.false c.word_at-from.ensures
    c.word_at-to.ensures c.entries_sound.ensures c.if-not-entries_sound.true

pub overflow_add-p-5 : goal.overflow_add-p-5
overflow_add-p-5 c = omega
    (arith, c.requires.level.offsets, c.requires.level.starts, c.requires.inside)

pub overflow_add-p-6 : goal.overflow_add-p-6
overflow_add-p-6 c = omega
    (arith, c.requires.level.offsets, c.requires.level.starts, c.requires.inside)

pub word_at-end-requires : goal.word_at-end-requires
word_at-end-requires c = omega
    (arith, c.requires.level.offsets, c.requires.level.starts, c.requires.inside)

pub faces_sound-requires : goal.faces_sound-requires
faces_sound-requires c = faces_rise _ _
    c.requires
    c.row_placed.ensures
    c.if-not-row_placed.false
    c.word_at-first.ensures c.word_at-end.ensures

pub returns-then-not-faces_sound : goal.returns-then-not-faces_sound
returns-then-not-faces_sound c = row_faces_lem _ _
    c.requires
    c.row_placed.ensures
    c.if-not-row_placed.false
    c.word_at-from.ensures
    c.word_at-to.ensures
    c.entries_sound.ensures
    c.if-not-entries_sound.false c.word_at-first.ensures
    c.word_at-end.ensures c.faces_sound.ensures c.if-not-faces_sound.true

pub link_sound-requires : goal.link_sound-requires
link_sound-requires c = c.requires

pub returns : goal.returns
returns c = row_link _ _
    c.requires
    c.row_placed.ensures
    c.if-not-row_placed.false
    c.word_at-from.ensures
    c.word_at-to.ensures
    c.entries_sound.ensures
    c.if-not-entries_sound.false
    c.word_at-first.ensures c.word_at-end.ensures
    c.faces_sound.ensures c.if-not-faces_sound.false c.link_sound.ensures
