-- `tables::below` meets its contract. The loop's invariant: the answer so far is that of the numbers passed.
use mathlib.Core.Path.{refl}
use Rattle.store.proofs.store.Each.{tested_start, tested_on}
use Rattle.index_check.proofs.tables.Laws.{below_tested}
use borrow.Author.Rules.{rules}
use Rattle.index_check.proofs.tables.below.Goals as goal

pub loop-k-init : goal.loop-k-init
loop-k-init c = tested_start _ _

pub loop-k-preserved : goal.loop-k-preserved
loop-k-preserved c = search (tested_on, rules)

pub returns : goal.returns
returns c = below_tested _ _ _ _ c.requires.fits refl c.loop-k.invariant c.loop-k-test.false
