-- `tables::two_below` meets its contract. The loop's invariant: the answer so far is that of the numbers passed of both.
use mathlib.Core.Path.{refl}
use Rattle.store.proofs.store.Each.{tested_start, tested_on}
use Rattle.index_check.proofs.tables.Laws.{two_tested}
use borrow.Author.Rules.{rules}
use Rattle.index_check.proofs.tables.two_below.Goals as goal

pub loop-k-init : goal.loop-k-init
loop-k-init c = tested_start _ _

pub loop-k-preserved : goal.loop-k-preserved
loop-k-preserved c = search (tested_on, rules)

pub returns : goal.returns
returns c = two_tested _ _ _ _ _ _ c.requires.below_ok.fits c.requires.below_ok_2.fits refl refl c.loop-k.invariant
    c.loop-k-test.false
