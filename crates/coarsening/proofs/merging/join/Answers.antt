-- `merging::join` meets its contract.
use borrow.Author.Rules.{rules}
use Rattle.coarsening.proofs.merging.Joining.{compose_requires, step_requires, join_done}
use Rattle.coarsening.proofs.merging.join.Goals as goal

pub compose-requires : goal.compose-requires
compose-requires c = search (compose_requires, rules)

pub step-requires : goal.step-requires
step-requires c = search (step_requires)

pub returns : goal.returns
returns c = search (join_done)
