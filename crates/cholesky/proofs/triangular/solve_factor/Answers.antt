-- `triangular::solve_factor` meets its contract.
use borrow.Author.Rules.{rules}
use Rattle.cholesky.proofs.triangular.Substitution.{copy_ok, solve_wrote, solve_lowered, solved}
use Rattle.cholesky.proofs.triangular.solve_factor.Goals as goal

pub copy-requires : goal.copy-requires
copy-requires c = search (copy_ok)

pub lower_solve-top-requires : goal.lower_solve-top-requires
lower_solve-top-requires c = search (solve_wrote)

pub upper_solve-requires : goal.upper_solve-requires
upper_solve-requires c = search (solve_lowered, rules)

pub returns : goal.returns
returns c = search (solved)
