-- `spread::spread_two` meets its contract: two faces, one after the other.
use Rattle.matrix.proofs.matrix.Turns.{vectors_resize, faced_two}
use native.Mathlib.Omega.{arith}
use borrow.Author.Rules.{rules}
use Rattle.matrix.proofs.spread.spread_two.Goals as goal

pub spread_face-owner-requires : goal.spread_face-owner-requires
spread_face-owner-requires g c =
    record { vectors_ok = c.requires.vectors_ok; face_bound = omega arith }

pub spread_face-requires : goal.spread_face-requires
spread_face-requires g c =
    record { vectors_ok = vectors_resize c.requires.vectors_ok (search rules); face_bound = omega arith }

pub returns : goal.returns
returns g c = search (faced_two, rules)
