use mathlib.Core.Path.{◌≡◌}
use lib.ListN.{length}
use Rattle.store.specs.Loop.{for}
use Rattle.store.proofs.store.Loop.{Left}
use Rattle.matrix.specs.Turns.{less_turn}
use Rattle.matrix.proofs.residual.diagonal_residual.Given as goal

abbrev pub invariant-loop-row : goal.invariant-loop-row
invariant-loop-row l = (length l.f ≡ length l.initial.f) × Left (less_turn l.s l.x l.rhs l.out) l.row l.s.rows l.f (for (less_turn l.s l.x l.rhs l.out) 0 l.s.rows l.initial.f)
