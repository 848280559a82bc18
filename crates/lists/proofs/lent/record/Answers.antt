-- `lists::lent::record` meets its contract.
use Rattle.lists.proofs.lent.Numbering.{record_none, record_there}
use Rattle.lists.proofs.lent.record.Goals as goal

pub returns-then-at-numbers : goal.returns-then-at-numbers
returns-then-at-numbers c = search (record_none)

pub returns : goal.returns
returns c = search (record_there)
