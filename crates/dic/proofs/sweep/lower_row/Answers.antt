-- `sweep::lower_row` meets its contract.
use Rattle.store.proofs.held.Single.{held_read}
use Rattle.matrix.proofs.matrix.Turns.{row_faces_lem}
use Rattle.gauss_seidel.proofs.Turns.{second_ok, lowered}
use native.Mathlib.Omega.{arith}
use borrow.Author.Rules.{rules}
use Rattle.dic.proofs.sweep.lower_row.Goals as goal

pub scale-value-requires : goal.scale-value-requires
scale-value-requires c =
    record { row_in_bounds = omega arith; row_in_bounds_2 = omega arith; start_value = c.requires.start_value }

pub cast_faces-stays-requires : goal.cast_faces-stays-requires
cast_faces-stays-requires c =
    let at-wide2 = c in
    let start = at-wide2 in
    record { vectors_ok = second_ok start.requires.vectors_ok (search rules); hi_bound = row_faces_lem start.requires.vectors_ok.kernel start.requires.row_lt_rows at-wide2.wide-hi.ensures; held = held_read _ _ _ _ c.float_at-held.ensures }

pub held_at-requires : goal.held_at-requires
held_at-requires c = c.cast_faces-stays.ensures.held

pub returns : goal.returns
returns c =
    let at-cast-faces = c in
    let at-scale = at-cast-faces in
    let at-wide2 = at-scale in
    let at_wide = at-wide2 in
    lowered _ _ _ _ at_wide.wide-lo.ensures at-wide2.wide-hi.ensures at-scale.scale-value.ensures at-cast-faces.cast_faces-stays.ensures c.held_at.ensures
