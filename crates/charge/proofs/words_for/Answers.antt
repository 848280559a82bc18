-- `words_for` adds up the words.
use Rattle.charge.specs.Charge.{words_for}
use Rattle.charge.proofs.Caps.{cut_levels}
use Rattle.charge.proofs.words_for.Goals as goal

pub returns : goal.returns
unfolding words_for
returns c = cut_levels _ _ _ c.priced-fixed.ensures c.priced-level.ensures c.with_levels.ensures
