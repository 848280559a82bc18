-- `held::put` meets its contract: the float watched is the one stored, or stays.
use borrow.Author.Rules.{rules}
use Rattle.store.proofs.held.Single.{put_here, put_there}
use Rattle.store.proofs.held.put.Goals as goal

pub returns-then-near-i : goal.returns-then-near-i
returns-then-near-i c = search (put_here, rules)

pub returns-else-near-i : goal.returns-else-near-i
returns-else-near-i c = search (put_there, rules)
