-- `held::held_at` meets its contract.
use borrow.Author.Rules.{rules}
use Rattle.store.proofs.held.Single.{held_is}
use Rattle.store.proofs.held.held_at.Goals as goal

pub returns-then-near : goal.returns-then-near
returns-then-near c = search (held_is, rules)
