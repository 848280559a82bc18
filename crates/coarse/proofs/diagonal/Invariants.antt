use mathlib.Core.Path.{◌≡◌}
use lib.ListN.{length}
use Rattle.store.specs.Loop.{for}
use Rattle.store.proofs.store.Loop.{Left}
use Rattle.coarse.proofs.Terminals.{diagonal_turn}
use Rattle.coarse.proofs.diagonal.Given as goal

abbrev pub invariant-loop-row : goal.invariant-loop-row
invariant-loop-row l = (length l.f ≡ length l.initial.f) × Left (diagonal_turn l.inverse l.rhs l.x) l.row l.n l.f (for (diagonal_turn l.inverse l.rhs l.x) 0 l.n l.initial.f)
