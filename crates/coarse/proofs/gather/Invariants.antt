use mathlib.Core.Path.{◌≡◌}
use lib.ListN.{length}
use Rattle.store.specs.Loop.{for}
use Rattle.store.proofs.store.Loop.{Left}
use Rattle.coarse.proofs.Terminals.{gather_turn}
use Rattle.coarse.proofs.gather.Given as goal

abbrev pub invariant-loop-k : goal.invariant-loop-k
invariant-loop-k l = (length l.f ≡ length l.initial.f) × Left (gather_turn l.w l.t.coupled l.rhs l.u) l.k l.t.size l.f (for (gather_turn l.w l.t.coupled l.rhs l.u) 0 l.t.size l.initial.f)
