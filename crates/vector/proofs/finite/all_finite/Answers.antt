-- `finite::all_finite` meets its contract. The loop's invariant: the answer so far is that of the elements passed.
use Rattle.vector.proofs.finite.Laws.{finites_start, finites_on, finites_done}
use Rattle.vector.proofs.finite.all_finite.Goals as goal

pub loop-k-init : goal.loop-k-init
loop-k-init c = finites_start _ _ _

pub loop-k-preserved : goal.loop-k-preserved
loop-k-preserved c = search (finites_on)

pub returns : goal.returns
returns c = search (finites_done)
