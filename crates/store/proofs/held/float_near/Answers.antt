-- `held::float_near` meets its contract: what is held is the float asked for where both stand at one index.
use borrow.Author.Rules.{rules}
use Rattle.store.proofs.held.Single.{near_held}
use Rattle.store.proofs.held.float_near.Goals as goal

pub returns-then-near-i : goal.returns-then-near-i
returns-then-near-i c = search (near_held, rules)
