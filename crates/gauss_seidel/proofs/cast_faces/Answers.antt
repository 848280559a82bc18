-- `gauss_seidel::cast_faces` meets its contract.
use Rattle.matrix.proofs.matrix.Turns.{neighbor_in}
use Rattle.gauss_seidel.proofs.Turns.{scattering_start, scattering_on, scattering_end}
use native.Mathlib.Omega.{arith}
use Rattle.gauss_seidel.proofs.cast_faces.Goals as goal

pub loop-face-init : goal.loop-face-init
loop-face-init c = scattering_start _ _ _ _ _ _ _ _ _ c.requires.held

pub index_at-neighbor-requires : goal.index_at-neighbor-requires
index_at-neighbor-requires c =
    let pair = neighbor_in _ c.requires.vectors_ok.kernel (omega arith) in
    record { k_in_bounds = pair.0; k_bound = pair.1 }

pub put-held-requires : goal.put-held-requires
put-held-requires c =
    record { i_in_bounds = omega arith; held = c.loop-face.invariant.held }

pub loop-face-preserved : goal.loop-face-preserved
loop-face-preserved c =
    scattering_on c.loop-face.invariant c.loop-face-test.true c.index_at-neighbor.ensures.value c.put-held.ensures

pub returns : goal.returns
returns c = scattering_end c.loop-face.invariant c.loop-face-test.false
