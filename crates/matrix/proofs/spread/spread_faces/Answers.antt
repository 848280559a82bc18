-- `spread::spread_faces` meets its contract.
use Rattle.matrix.proofs.matrix.Turns.{vectors_resize, facing_start, facing_on, facing_end, faced_upto}
use native.Mathlib.Omega.{arith}
use Rattle.matrix.proofs.spread.spread_faces.Goals as goal

pub spread_two-requires : goal.spread_two-requires
spread_two-requires g c =
    record { vectors_ok = c.requires.vectors_ok; lo_bound = omega arith }

pub returns-then-hi-lo-eq2 : goal.returns-then-hi-lo-eq2
returns-then-hi-lo-eq2 g c = faced_upto (omega arith) c.spread_two.ensures

pub loop-face-init : goal.loop-face-init
loop-face-init g c = facing_start

pub spread_face-owner-requires : goal.spread_face-owner-requires
spread_face-owner-requires g c =
    record { vectors_ok = vectors_resize c.requires.vectors_ok c.loop-face.invariant.size; face_bound = omega arith }

pub loop-face-preserved : goal.loop-face-preserved
loop-face-preserved g c =
    facing_on c.loop-face.invariant (omega arith) c.spread_face-owner.ensures

pub returns : goal.returns
returns g c = facing_end c.loop-face.invariant (omega arith)
