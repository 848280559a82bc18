use Prim.Native.Nat.{◌+◌}
use Rattle.store.specs.Region.{at}
use Rattle.matrix.proofs.matrix.Turns.{Facing}
use Rattle.matrix.proofs.spread.spread_faces.Given as goal

abbrev pub invariant-loop-face : goal.invariant-loop-face
invariant-loop-face g l = Facing g.C.Combine.op l.w l.s l.x l.out l.lo l.hi (at l.initial.f (l.x + l.row)) l.initial.f (at l.initial.f (l.out + l.row)) l.face l.f l.owner
