-- `gauss_seidel::forward_row` meets its contract.
use mathlib.Core.Path.{refl}
use Rattle.store.proofs.held.Single.{held_read}
use Rattle.matrix.proofs.matrix.Turns.{row_faces_lem}
use Rattle.gauss_seidel.proofs.Turns.{second_ok, forwarded}
use native.Mathlib.Omega.{arith}
use Rattle.gauss_seidel.proofs.forward_row.Goals as goal

pub fresh-value-requires : goal.fresh-value-requires
fresh-value-requires c =
    record { vectors_ok = c.requires.vectors_ok; row_lt_rows = c.requires.row_lt_rows; start_value = c.requires.start_value }

pub cast_faces-cast-requires : goal.cast_faces-cast-requires
cast_faces-cast-requires c =
    record { vectors_ok = second_ok c.requires.vectors_ok refl; hi_bound = row_faces_lem c.requires.vectors_ok.kernel c.requires.row_lt_rows c.wide-hi.ensures; held = held_read _ _ _ _ c.float_at-held.ensures }

pub put-stays-requires : goal.put-stays-requires
put-stays-requires c =
    record { i_in_bounds = omega arith; held = c.cast_faces-cast.ensures.held }

pub held_at-requires : goal.held_at-requires
held_at-requires c = c.put-stays.ensures.held

pub returns : goal.returns
returns c =
    forwarded c.wide-lo.ensures c.wide-hi.ensures c.fresh-value.ensures c.cast_faces-cast.ensures c.put-stays.ensures c.held_at.ensures
