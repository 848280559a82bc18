-- `triangular::upper_solve` meets its contract. The loop's invariant: the rows that are left give what all of them give.
use borrow.Author.Rules.{rules}
use mathlib.Core.Path.{refl}
use Rattle.store.proofs.store.Loop.{left_start, left_on}
use Rattle.cholesky.proofs.packed.Triangles.{down_start, down_row, down_on}
use Rattle.cholesky.proofs.triangular.Substitution.{solve_resize, high_on, raised}
use Rattle.cholesky.proofs.triangular.upper_solve.Goals as goal

pub loop-j-init : goal.loop-j-init
loop-j-init c = (refl, search (down_start), left_start)

pub high_rest-value-requires : goal.high_rest-value-requires
high_rest-value-requires c = search (solve_resize, down_row, rules)

pub loop-j-preserved : goal.loop-j-preserved
loop-j-preserved c = search (down_on, left_on, high_on, down_row, rules)

pub returns : goal.returns
returns c = search (raised)
