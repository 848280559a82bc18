-- `load::laying::behind` meets its contract.
use Rattle.std.proofs.Common.{refl}
use Rattle.load.proofs.laying.behind.Goals as goal

pub overflow_sub-result : goal.overflow_sub-result
overflow_sub-result c = c.requires c.if-there.true

pub returns-then-there : goal.returns-then-there
returns-then-there c = rw c.if-there.true refl
