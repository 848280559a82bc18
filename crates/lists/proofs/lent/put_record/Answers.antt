-- `lists::lent::put_record` meets its contract.
use Rattle.lists.proofs.lent.Numbering.{record_put}
use Rattle.lists.proofs.lent.put_record.Goals as goal

pub returns : goal.returns
returns c = search (record_put)
