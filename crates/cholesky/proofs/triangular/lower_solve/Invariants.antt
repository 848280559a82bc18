use mathlib.Core.Path.{◌≡◌}
use Prim.Native.Nat.{◌≤◌}
use lib.ListN.{length}
use Rattle.store.specs.Loop.{for}
use Rattle.store.proofs.store.Loop.{Left}
use Rattle.cholesky.proofs.packed.Triangles.{UpAt}
use Rattle.cholesky.proofs.triangular.Substitution.{low_turn}
use Rattle.cholesky.proofs.triangular.lower_solve.Given as goal

abbrev pub invariant-loop-row : goal.invariant-loop-row
invariant-loop-row l = (length l.f ≡ length l.initial.f) × UpAt l.n l.row l.start × (l.row ≤ l.n) × Left (low_turn l.l l.x) l.row l.n l.f (for (low_turn l.l l.x) 0 l.n l.initial.f)
