use Prim.Native.Nat.{◌+◌, ◌≤◌}
use Rattle.store.specs.Loop.{for}
use Rattle.store.specs.Region.{at}
use Rattle.store.proofs.store.Loop.{Left}
use Rattle.cholesky.proofs.packed.Triangles.{UpAt}
use Rattle.cholesky.proofs.triangular.Substitution.{cross_turn}
use Rattle.cholesky.proofs.triangular.high_rest.Given as goal

abbrev pub invariant-loop-k : goal.invariant-loop-k
invariant-loop-k l = UpAt l.n l.k l.own × (l.row + 1 ≤ l.k) × Left (cross_turn l.f l.l l.x l.row) l.k l.n l.value (for (cross_turn l.f l.l l.x l.row) (l.row + 1) l.n (at l.f (l.x + l.row)))
