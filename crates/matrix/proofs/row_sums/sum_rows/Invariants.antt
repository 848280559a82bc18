use mathlib.Core.Path.{◌≡◌}
use lib.ListN.{length}
use Rattle.store.specs.Loop.{for}
use Rattle.store.proofs.store.Loop.{Left}
use Rattle.matrix.specs.Turns.{sum_row_turn}
use Rattle.matrix.proofs.row_sums.sum_rows.Given as goal

abbrev pub invariant-loop-row : goal.invariant-loop-row
invariant-loop-row l = (length l.f ≡ length l.initial.f) × Left (sum_row_turn l.w l.s l.sums) l.row l.s.rows l.f (for (sum_row_turn l.w l.s l.sums) 0 l.s.rows l.initial.f)
