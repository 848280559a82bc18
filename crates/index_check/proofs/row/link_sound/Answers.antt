-- `row::link_sound` meets its contract.
use Rattle.index_check.proofs.row.Laws.{link_told, link_none}
use Rattle.index_check.proofs.tables.Laws.{below_ok}
use native.Mathlib.Omega.{arith}
use Rattle.index_check.proofs.row.link_sound.Goals as goal

pub overflow_add-p : goal.overflow_add-p
overflow_add-p c = omega (arith, c.requires.level.links)

pub below-requires : goal.below-requires
below-requires c = record
    { fits = omega (arith, c.requires.level.links); small = below_ok c.requires.level.targets }

pub returns-then-row-t : goal.returns-then-row-t
returns-then-row-t c = link_told _ _ c.requires c.if-row-t.true c.below.ensures

pub returns : goal.returns
returns c = link_none _ _ c.requires c.if-row-t.false
