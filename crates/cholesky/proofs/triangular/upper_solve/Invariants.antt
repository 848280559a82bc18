use mathlib.Core.Path.{◌≡◌}
use lib.ListN.{length}
use Rattle.store.specs.Loop.{for}
use Rattle.store.proofs.store.Loop.{Left}
use Rattle.cholesky.proofs.packed.Triangles.{DownAt}
use Rattle.cholesky.proofs.triangular.Substitution.{high_turn}
use Rattle.cholesky.proofs.triangular.upper_solve.Given as goal

abbrev pub invariant-loop-j : goal.invariant-loop-j
invariant-loop-j l = (length l.f ≡ length l.initial.f) × DownAt l.n l.j l.start × Left (high_turn l.n l.l l.x) l.j l.n l.f (for (high_turn l.n l.l l.x) 0 l.n l.initial.f)
