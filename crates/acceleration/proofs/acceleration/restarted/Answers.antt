-- `acceleration::restarted` meets its contract.
use borrow.Author.Rules.{rules}
use Rattle.acceleration.proofs.acceleration.Ways.{restart_full, restart_not}
use Rattle.acceleration.proofs.acceleration.restarted.Goals as goal

pub returns-then-used-krylov : goal.returns-then-used-krylov
returns-then-used-krylov c = search (restart_full, rules)

pub returns-else-used-krylov : goal.returns-else-used-krylov
returns-else-used-krylov c = search (restart_not, rules)
