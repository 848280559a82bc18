-- `until` meets its contract.
use borrow.Author.Tests.{lt-ltb, le-ltb}
use Rattle.record_order.specs.Order.{until_of}
use Rattle.record_order.proofs.until.Goals as goal

pub returns-then-had-size : goal.returns-then-had-size
unfolding until_of
returns-then-had-size c = rw (lt-ltb _ _ c.if-had-size.true)

pub returns-else-had-size : goal.returns-else-had-size
unfolding until_of
returns-else-had-size c = rw (le-ltb _ _ c.if-had-size.false)
