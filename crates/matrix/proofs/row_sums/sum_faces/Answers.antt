-- `row_sums::sum_faces` meets its contract.
use Rattle.matrix.proofs.row_sums.Sums.{holding_start, holding_on, holding_done}
use native.Mathlib.Omega.{arith}
use Rattle.matrix.proofs.row_sums.sum_faces.Goals as goal

pub loop-face-init : goal.loop-face-init
loop-face-init c = holding_start _ _ _ _ _ _ _

pub sum_face-own-requires : goal.sum_face-own-requires
sum_face-own-requires c =
    record { kernel_ok = c.requires.kernel_ok; rows_in_bounds = omega arith; row_lt_rows = c.requires.row_lt_rows; face_bound = omega arith }

pub loop-face-preserved : goal.loop-face-preserved
loop-face-preserved c =
    holding_on c.loop-face.invariant c.loop-face-test.true c.sum_face-own.ensures

pub returns : goal.returns
returns c = holding_done c.loop-face.invariant c.loop-face-test.false
