-- `lists::calls::update_values` meets its contract.
use Rattle.lists.proofs.lent.Numbering.{update_over}
use Rattle.lists.proofs.calls.update_values.Goals as goal

pub returns : goal.returns
returns c = search (update_over)
