-- `sized` meets its contract.
use Rattle.record_order.proofs.Ways.{sized_read, sized_bad, sized_until}
use Rattle.record_order.proofs.sized.Goals as goal

pub returns-then-had-head : goal.returns-then-had-head
returns-then-had-head c = search (sized_read)

pub returns-then-size-eq0 : goal.returns-then-size-eq0
returns-then-size-eq0 c = search (sized_bad)

pub returns : goal.returns
returns c = search (sized_until)
