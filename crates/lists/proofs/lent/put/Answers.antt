-- `lists::lent::put` meets its contract.
use Rattle.lists.proofs.lent.Numbering.{put_past}
use Rattle.lists.proofs.lent.put.Goals as goal

pub returns-else-at-numbers : goal.returns-else-at-numbers
returns-else-at-numbers c = search (put_past)
