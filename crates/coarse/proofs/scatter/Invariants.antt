use mathlib.Core.Path.{◌≡◌}
use lib.ListN.{length}
use Rattle.store.specs.Loop.{for}
use Rattle.store.proofs.store.Loop.{Left}
use Rattle.coarse.proofs.Terminals.{scatter_turn}
use Rattle.coarse.proofs.scatter.Given as goal

abbrev pub invariant-loop-k : goal.invariant-loop-k
invariant-loop-k l = (length l.f ≡ length l.initial.f) × Left (scatter_turn l.w l.t.coupled l.u l.x) l.k l.t.size l.f (for (scatter_turn l.w l.t.coupled l.u l.x) 0 l.t.size l.initial.f)
