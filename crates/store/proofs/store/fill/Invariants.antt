use mathlib.Core.Path.{◌≡◌}
use lib.ListN.{length}
use Rattle.store.specs.Loop.{for}
use Rattle.store.proofs.store.Loop.{Left}
use Rattle.store.proofs.store.Turns.{fill_turn}
use Rattle.store.proofs.store.fill.Given as goal

abbrev pub invariant-loop-k : goal.invariant-loop-k
invariant-loop-k g l = (length l.s ≡ length l.initial.s) × Left (fill_turn l.to l.v) l.k l.n l.s (for (fill_turn l.to l.v) 0 l.n l.initial.s)
