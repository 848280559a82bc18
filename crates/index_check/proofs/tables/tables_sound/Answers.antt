-- `tables::tables_sound` meets its contract.
use mathlib.Core.Path.{refl, sym, ◌∙◌}
use Rattle.index_check.proofs.tables.Laws.{tables_told, columns_last, columns_inner, below_ok}
use Rattle.index_check.proofs.tables.tables_sound.Goals as goal

pub returns-then-not-faces_below : goal.returns-then-not-faces_below
returns-then-not-faces_below c = tables_told _ _ c.requires (sym c.if-not-faces_below.true ∙ c.faces_below.ensures) refl refl

pub below-requires : goal.below-requires
below-requires c = record { fits = c.requires.links; small = below_ok c.requires.targets }

pub returns-then-not-below : goal.returns-then-not-below
returns-then-not-below c = tables_told _ _ c.requires
    (sym c.if-not-faces_below.false ∙ c.faces_below.ensures)
    (sym c.if-not-below.true ∙ c.below.ensures) refl

pub below-requires-then-t : goal.below-requires-then-t
below-requires-then-t c = record
    { fits = c.requires.columns; small = below_ok c.requires.rows }

pub returns-then-t : goal.returns-then-t
returns-then-t c = tables_told _ _ c.requires
    (sym c.if-not-faces_below.false ∙ c.faces_below.ensures)
    (sym c.if-not-below.false ∙ c.below.ensures)
    (columns_last _ _ c.requires c.if-t.true c.below-then-t.ensures)

pub two_below-requires : goal.two_below-requires
two_below-requires c =
    record { below_ok = record { fits = c.requires.columns; small = below_ok c.requires.rows }; below_ok_2 = record { fits = c.requires.positions c.if-t.false; small = c.requires.sums } }

pub returns : goal.returns
returns c = tables_told _ _ c.requires
    (sym c.if-not-faces_below.false ∙ c.faces_below.ensures)
    (sym c.if-not-below.false ∙ c.below.ensures)
    (columns_inner _ _ c.requires c.if-t.false c.two_below.ensures)
