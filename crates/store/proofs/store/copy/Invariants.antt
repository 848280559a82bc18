use mathlib.Core.Path.{◌≡◌}
use lib.ListN.{length}
use Rattle.store.specs.Loop.{for}
use Rattle.store.proofs.store.Loop.{Left}
use Rattle.store.proofs.store.Turns.{copy_turn}
use Rattle.store.proofs.store.copy.Given as goal

abbrev pub invariant-loop-k : goal.invariant-loop-k
invariant-loop-k g l =
    (length l.s ≡ length l.initial.s) × ((d : _) → Left (copy_turn d l.from l.to) l.k l.n l.s (for (copy_turn d l.from l.to) 0 l.n l.initial.s)) × (l.k ≡ 0 → l.s ≡ l.initial.s)
