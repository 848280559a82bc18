-- `lists::lent::write_back` meets its contract. The invariant: what is left to write gives what the whole gives.
use Rattle.std.proofs.Common.{refl, rules}
use Rattle.store.proofs.store.Loop.{left_start, left_end}
use Rattle.lists.proofs.lent.Numbering.{back_on}
use Rattle.lists.proofs.lent.write_back.Goals as goal

pub loop-k-init : goal.loop-k-init
loop-k-init c = (refl, left_start)

pub loop-k-preserved : goal.loop-k-preserved
loop-k-preserved c = search (back_on, rules)

pub returns : goal.returns
returns c = search (left_end)
