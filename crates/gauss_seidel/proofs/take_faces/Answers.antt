-- `gauss_seidel::take_faces` meets its contract. A neighbour is a row, so that the loop is not left before its end.
use mathlib.Core.Path.{refl}
use Rattle.matrix.proofs.matrix.Turns.{neighbor_in}
use Rattle.gauss_seidel.proofs.Turns.{gathering_start, gathering_on, gathering_end}
use native.Mathlib.Omega.{arith}
use Rattle.gauss_seidel.proofs.take_faces.Goals as goal

pub loop-face-init : goal.loop-face-init
loop-face-init c = gathering_start _ _ _ _ _ _ _ _

pub index_at-neighbor-requires : goal.index_at-neighbor-requires
index_at-neighbor-requires c =
    let pair = neighbor_in _ c.requires.vectors_ok.kernel (omega arith) in
    record { k_in_bounds = pair.0; k_bound = pair.1 }

pub returns-then-neighbor-s : goal.returns-then-neighbor-s
returns-then-neighbor-s c = absurd (omega arith)

pub loop-face-preserved : goal.loop-face-preserved
loop-face-preserved c =
    gathering_on c.loop-face.invariant c.loop-face-test.true c.index_at-neighbor.ensures.value refl

pub returns : goal.returns
returns c = gathering_end c.loop-face.invariant c.loop-face-test.false
