-- `spread::spread_face` meets its contract: a turn of the definition's loop.
use Rattle.matrix.proofs.matrix.Turns.{neighbor_in, faced_one}
use Rattle.matrix.proofs.spread.spread_face.Goals as goal

pub index_at-neighbor-requires : goal.index_at-neighbor-requires
index_at-neighbor-requires g c =
    let pair = neighbor_in _ c.requires.vectors_ok.kernel c.requires.face_bound in
    record { k_in_bounds = pair.0; k_bound = pair.1 }

pub returns : goal.returns
returns g c = faced_one c.index_at-neighbor.ensures.value c.combine-sum.ensures c.combine.ensures
