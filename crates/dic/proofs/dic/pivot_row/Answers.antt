-- `dic::pivot_row` meets its contract.
use Rattle.store.proofs.held.Single.{held_read}
use Rattle.matrix.proofs.matrix.Turns.{row_faces_lem}
use Rattle.dic.proofs.dic.Turns.{pivots_ok, pivot_rowed}
use Rattle.dic.proofs.dic.pivot_row.Goals as goal

pub pivot_faces-stays-requires : goal.pivot_faces-stays-requires
pivot_faces-stays-requires c =
    let at-wide2 = c in
    let start = at-wide2 in
    record { vectors_ok = pivots_ok start.requires.dic_ok; hi_bound = row_faces_lem start.requires.dic_ok.kernel start.requires.row_lt_rows at-wide2.wide-hi.ensures; held = held_read _ _ _ _ c.float_at-held.ensures }

pub held_at-requires : goal.held_at-requires
held_at-requires c = c.pivot_faces-stays.ensures.held

pub returns : goal.returns
returns c =
    let at-pivot-faces = c in
    let at-wide2 = at-pivot-faces in
    let at_wide = at-wide2 in
    pivot_rowed _ _ _ at_wide.wide-lo.ensures at-wide2.wide-hi.ensures at-pivot-faces.pivot_faces-stays.ensures c.held_at.ensures
