-- `weights::restrict_weights` meets its contract.
use Rattle.galerkin.proofs.galerkin.Turns.{weights_done}
use borrow.Author.Rules.{rules}
use Rattle.galerkin.proofs.weights.restrict_weights.Goals as goal

pub returns : goal.returns
returns c = search (weights_done, rules)
