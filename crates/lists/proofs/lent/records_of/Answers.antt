-- `lists::lent::records_of` meets its contract. The invariant: what is left to read gives what the whole gives.
use Rattle.std.proofs.Common.{refl, rules}
use Rattle.store.proofs.store.Loop.{left_start}
use Rattle.lists.proofs.lent.Numbering.{read_on, read_done}
use Rattle.lists.proofs.lent.records_of.Goals as goal

pub loop-k-init : goal.loop-k-init
loop-k-init c = (refl, refl, left_start)

pub loop-k-preserved : goal.loop-k-preserved
loop-k-preserved c = search (read_on, rules)

pub returns : goal.returns
returns c = search (read_done)
