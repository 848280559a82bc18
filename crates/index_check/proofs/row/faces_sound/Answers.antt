-- `row::faces_sound` meets its contract.
use mathlib.Core.Path.{refl}
use Rattle.index_check.proofs.row.Laws.{faces_past, faces_told}
use Rattle.index_check.proofs.tables.Laws.{below_ok}
use native.Mathlib.Omega.{arith}
use Rattle.index_check.proofs.row.faces_sound.Goals as goal

pub returns-then-p-to : goal.returns-then-p-to
returns-then-p-to c = faces_past _ _ c.requires c.if-p-to.true

pub below-neighbors-requires : goal.below-neighbors-requires
below-neighbors-requires c = record
    { fits = omega (arith, c.requires.level.neighbors, c.requires.rises); small = below_ok c.requires.level.rows }

pub below-uppers-requires : goal.below-uppers-requires
below-uppers-requires c = record
    { fits = omega (arith, c.requires.level.uppers, c.requires.rises); small = c.requires.level.entries }

pub below-lowers-requires : goal.below-lowers-requires
below-lowers-requires c = record
    { fits = omega (arith, c.requires.level.lowers, c.requires.rises); small = c.requires.level.entries }

pub returns : goal.returns
returns c = faces_told _ _ c.requires
    c.if-p-to.false refl c.below-neighbors.ensures
    c.below-uppers.ensures c.below-lowers.ensures
