-- `coarse::solve` meets its contract.
use Rattle.coarse.proofs.Terminals.{diagonal_ok, coupled_ok, solve_yes, solve_no}
use Rattle.coarse.proofs.solve.Goals as goal

pub diagonal-requires : goal.diagonal-requires
diagonal-requires c = search (diagonal_ok)

pub solve_coupled-requires : goal.solve_coupled-requires
solve_coupled-requires c = search (coupled_ok)

pub returns-then-all_finite : goal.returns-then-all_finite
returns-then-all_finite c =
    let at-coupled = c in
    let at-diagonal = at-coupled in
    let start = at-diagonal in
    solve_yes start.requires at-diagonal.diagonal.ensures at-coupled.solve_coupled.ensures c.all_finite.ensures c.if-all_finite.true

pub returns-else-all_finite : goal.returns-else-all_finite
returns-else-all_finite c =
    let at-coupled = c in
    let at-diagonal = at-coupled in
    let start = at-diagonal in
    solve_no start.requires at-diagonal.diagonal.ensures at-coupled.solve_coupled.ensures c.all_finite.ensures c.if-all_finite.false
