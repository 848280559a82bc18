-- `building::cells` meets its contract.
use Rattle.std.proofs.Common.{refl, arith}
use Rattle.layout.proofs.Places.{ends_above}
use Rattle.multigrid.proofs.building.Reading.{reading, level_fits, reading_on, reading_end}
use Rattle.multigrid.proofs.building.cells.Goals as goal

pub loop-k-init : goal.loop-k-init
loop-k-init c = reading c.requires refl

pub offset_bounds-words-a : goal.offset_bounds-words-a
offset_bounds-words-a c = omega (arith, ends_above _ _ refl refl refl (level_fits c.loop-k.invariant c.loop-k-test.true))

pub bounds-words-a : goal.bounds-words-a
bounds-words-a c = omega (arith, ends_above _ _ refl refl refl (level_fits c.loop-k.invariant c.loop-k-test.true))

pub bounds-table-k : goal.bounds-table-k
bounds-table-k c = omega (arith, c.loop-k.invariant.few)

pub words_end-a-requires : goal.words_end-a-requires
words_end-a-requires c = level_fits c.loop-k.invariant c.loop-k-test.true

pub loop-k-preserved : goal.loop-k-preserved
loop-k-preserved c = reading_on c.loop-k.invariant c.loop-k-test.true c.wide.ensures c.words_end-a.ensures

pub returns : goal.returns
returns c = reading_end c.loop-k.invariant c.loop-k-test.false
