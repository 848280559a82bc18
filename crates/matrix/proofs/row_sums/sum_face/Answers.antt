-- `row_sums::sum_face` meets its contract: one law for each way out.
use Rattle.matrix.proofs.matrix.Turns.{neighbor_in}
use Rattle.matrix.proofs.row_sums.Sums.{held_self, held_other}
use native.Mathlib.Omega.{arith}
use Rattle.matrix.proofs.row_sums.sum_face.Goals as goal

pub index_at-neighbor-requires : goal.index_at-neighbor-requires
index_at-neighbor-requires c =
    let pair = neighbor_in _ c.requires.kernel_ok c.requires.face_bound in
    record { k_in_bounds = pair.0; k_bound = pair.1 }

pub returns-then-neighbor-row : goal.returns-then-neighbor-row
returns-then-neighbor-row c = held_self _ _ _ _ _ _ _ c.index_at-neighbor.ensures.value (omega arith) (omega arith) c.if-neighbor-row.true

pub returns : goal.returns
returns c = held_other _ _ _ _ _ _ _ c.index_at-neighbor.ensures.value (omega arith) (omega arith) c.if-neighbor-row.false
