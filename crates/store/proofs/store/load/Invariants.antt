use mathlib.Core.Path.{◌≡◌}
use lib.ListN.{length}
use Rattle.store.specs.Loop.{for}
use Rattle.store.proofs.store.Loop.{Left}
use Rattle.store.proofs.store.Turns.{load_turn}
use Rattle.store.proofs.store.load.Given as goal

abbrev pub invariant-loop-k : goal.invariant-loop-k
invariant-loop-k g l =
    (length l.s ≡ length l.initial.s) × ((d : _) → Left (load_turn d l.from l.to) l.k (length l.from) l.s (for (load_turn d l.from l.to) 0 (length l.from) l.initial.s)) × (l.k ≡ 0 → l.s ≡ l.initial.s)
