use Rattle.std.proofs.Common.{◌≡◌, ℕ, ◌<◌, Float}
use Rattle.store.proofs.store.Loop.{Left}
use Rattle.residual_norm.specs.Measure.{sum_of}
use Rattle.residual_norm.specs.Turns.{sum_turn}
use Rattle.residual_norm.proofs.rows.sum_rows.Given as goal

abbrev pub invariant-loop-row : goal.invariant-loop-row
invariant-loop-row g l =
    (h : ℕ → Float) → ((row : ℕ) (r : Float) → row < l.n → goal.G-post g l.term row r → r ≡ h row)
    → Left (sum_turn h) l.row l.n l.sum (sum_of l.n h)
