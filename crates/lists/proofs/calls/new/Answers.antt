-- `lists::calls::new` meets its contract.
use Rattle.lists.proofs.lent.Numbering.{build_over}
use Rattle.lists.proofs.calls.new.Goals as goal

pub returns : goal.returns
returns c = search (build_over)
