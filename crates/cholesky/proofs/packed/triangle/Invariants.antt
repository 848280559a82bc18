use Prim.Native.Nat.{◌≤◌}
use Rattle.cholesky.proofs.packed.Triangles.{UpAt}
use Rattle.cholesky.proofs.packed.triangle.Given as goal

abbrev pub invariant-loop-row : goal.invariant-loop-row
invariant-loop-row l = UpAt l.n l.row l.end × (l.row ≤ l.n)
