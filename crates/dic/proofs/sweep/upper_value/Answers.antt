-- `sweep::upper_value` meets its contract.
use mathlib.Core.Path.{refl}
use Rattle.matrix.proofs.matrix.Turns.{row_faces_lem}
use Rattle.gauss_seidel.proofs.Turns.{second_ok, uppered}
use Rattle.dic.proofs.sweep.upper_value.Goals as goal

pub add_faces-upper-requires : goal.add_faces-upper-requires
add_faces-upper-requires c =
    let start = c in
    record { vectors_ok = second_ok start.requires.vectors_ok refl; hi_bound = row_faces_lem start.requires.vectors_ok.kernel start.requires.row_lt_rows c.wide-hi.ensures; held = start.requires.held }

pub returns : goal.returns
returns c =
    let at-wide2 = c in
    let at_wide = at-wide2 in
    uppered at_wide.wide-lo.ensures at-wide2.wide-hi.ensures c.add_faces-upper.ensures
