-- `sweep::dic_sweep` meets its contract.
use Rattle.gauss_seidel.proofs.Sweeps.{residual_room, lower_ok, upper_ok, dic_swept}
use borrow.Author.Rules.{rules}
use Rattle.dic.proofs.sweep.dic_sweep.Goals as goal

pub residual-requires : goal.residual-requires
residual-requires c = search (residual_room, rules)

pub lower-requires : goal.lower-requires
lower-requires c = search (lower_ok)

pub upper-requires : goal.upper-requires
upper-requires c =
    let at-lower = c in
    let at-residual = at-lower in
    let start = at-residual in
    let pair = upper_ok start.requires at-residual.residual.ensures at-lower.lower.ensures in
    record { vectors_ok = pair.0; rows_in_bounds = pair.1 }

pub returns : goal.returns
returns c = search (dic_swept)
