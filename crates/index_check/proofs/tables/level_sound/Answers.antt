-- `tables::level_sound` meets its contract.
use Rattle.index_check.proofs.tables.Laws.{level_no, level_on}
use Rattle.index_check.proofs.tables.level_sound.Goals as goal

pub tables_sound-requires : goal.tables_sound-requires
tables_sound-requires c = c.requires

pub returns-then-not-tables_sound : goal.returns-then-not-tables_sound
returns-then-not-tables_sound c = level_no _ _ c.requires c.tables_sound.ensures c.if-not-tables_sound.true

pub rows_placed-requires : goal.rows_placed-requires
rows_placed-requires c = c.requires

pub returns : goal.returns
returns c = level_on _ _ c.requires c.tables_sound.ensures
    c.if-not-tables_sound.false c.rows_placed.ensures
