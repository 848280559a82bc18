use Rattle.faces.proofs.faces.Counting.{Offsetting}
use Rattle.faces.proofs.faces.face_offsets.Given as goal

abbrev pub invariant-loop-row : goal.invariant-loop-row
invariant-loop-row l = Offsetting l.initial.w l.w l.s l.row l.found
