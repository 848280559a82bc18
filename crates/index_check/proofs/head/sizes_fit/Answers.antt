-- `head::sizes_fit` meets its contract.
use Rattle.index_check.specs.LevelContract.{sizes_fit}
use borrow.Author.Rules.{rules}
use Rattle.index_check.proofs.head.sizes_fit.Goals as goal

pub returns : goal.returns
unfolding sizes_fit
returns c = search (rules)
