-- `pattern::link` meets its contract. The loop's invariant: the rows from i on are chained.
use mathlib.Core.Path.{refl}
use Rattle.pattern.proofs.pattern.Chains.{links_on}
use Rattle.pattern.proofs.pattern.link.Goals as goal

pub loop-i-preserved : goal.loop-i-preserved
loop-i-preserved c = links_on c.loop-i.invariant
    c.loop-i-test.true refl c.index_at-a.ensures.value
