-- `pattern::chain` meets its contract: from empty chains the rows are chained.
use Rattle.pattern.proofs.pattern.Chains.{links_start, links_then}
use Rattle.pattern.proofs.pattern.chain.Goals as goal

pub link-requires : goal.link-requires
link-requires c = (links_start c.requires
    c.fill.ensures).state

pub returns : goal.returns
returns c = links_then (links_start
    c.requires
    c.fill.ensures) c.link.ensures
