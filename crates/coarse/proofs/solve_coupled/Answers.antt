-- `coarse::solve_coupled` meets its contract.
use borrow.Author.Rules.{rules}
use Rattle.coarse.proofs.Terminals.{gather_ok, factor_ok, scatter_ok, coupled_done}
use Rattle.coarse.proofs.solve_coupled.Goals as goal

pub gather-requires : goal.gather-requires
gather-requires c = search (gather_ok)

pub solve_factor-requires : goal.solve_factor-requires
solve_factor-requires c = search (factor_ok, rules)

pub scatter-requires : goal.scatter-requires
scatter-requires c = search (scatter_ok)

pub returns : goal.returns
returns c = search (coupled_done)
