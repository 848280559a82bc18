use mathlib.Core.Path.{◌≡◌}
use lib.ListN.{length}
use Rattle.store.specs.Loop.{for}
use Rattle.store.proofs.store.Loop.{Left}
use Rattle.matrix.specs.Turns.{product_turn}
use Rattle.matrix.proofs.matrix.diagonal_product.Given as goal

abbrev pub invariant-loop-row : goal.invariant-loop-row
invariant-loop-row l = (length l.f ≡ length l.initial.f) × Left (product_turn l.s l.x l.out) l.row l.s.rows l.f (for (product_turn l.s l.x l.out) 0 l.s.rows l.initial.f)
