-- `sweep::add_faces` meets its contract.
use Rattle.matrix.proofs.matrix.Turns.{neighbor_in}
use Rattle.gauss_seidel.proofs.Turns.{gathering_start, gathering_on, gathering_end}
use native.Mathlib.Omega.{arith}
use Rattle.dic.proofs.sweep.add_faces.Goals as goal

pub loop-face-init : goal.loop-face-init
loop-face-init c = gathering_start _ _ _ _ _ _ _ _

pub index_at-neighbor-requires : goal.index_at-neighbor-requires
index_at-neighbor-requires c =
    let pair = neighbor_in _ c.requires.vectors_ok.kernel (omega arith) in
    record { k_in_bounds = pair.0; k_bound = pair.1 }

pub float_near-other-requires : goal.float_near-other-requires
float_near-other-requires c =
    record { i_in_bounds = omega arith; held = c.requires.held }

pub loop-face-preserved : goal.loop-face-preserved
loop-face-preserved c =
    let at-index-at = c in
    let at-loop-test = at-index-at in
    let at-loop = at-loop-test in
    gathering_on at-loop.loop-face.invariant at-loop-test.loop-face-test.true at-index-at.index_at-neighbor.ensures.value c.float_near-other.ensures

pub returns : goal.returns
returns c = gathering_end c.loop-face.invariant c.loop-face-test.false
