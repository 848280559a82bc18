-- `spread::spread_row` meets its contract.
use Rattle.matrix.proofs.matrix.Turns.{row_faces_lem, rowed}
use Rattle.matrix.proofs.spread.spread_row.Goals as goal

pub spread_faces-owner-requires : goal.spread_faces-owner-requires
spread_faces-owner-requires g c =
    record { vectors_ok = c.requires.vectors_ok; row_lt_rows = c.requires.row_lt_rows; hi_bound = row_faces_lem c.requires.vectors_ok.kernel c.requires.row_lt_rows c.wide-hi.ensures }

pub returns : goal.returns
returns g c = rowed c.requires.lo_value c.wide-hi.ensures c.spread_faces-owner.ensures
