-- `tables::two_rise` meets its contract. The loop's invariant: the answer so far is that of the numbers passed of both.
use borrow.Author.Rules.{rules}
use Rattle.store.proofs.store.Each.{tested_start, tested_on}
use Rattle.index_check.proofs.tables.Laws.{rise_tested}
use Rattle.index_check.proofs.tables.two_rise.Goals as goal

pub loop-k-init : goal.loop-k-init
loop-k-init c = tested_start _ _

pub loop-k-preserved : goal.loop-k-preserved
loop-k-preserved c = search (tested_on, rules)

pub returns : goal.returns
returns c = search (rise_tested, rules)
