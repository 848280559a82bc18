-- What is proved of the pairs beyond their definition. Definitions only.
use Rattle.std.specs.Prelude.{◌≡◌, false, List, ℕ, ◌+◌, ◌≤◌, ◌<◌}
use Rattle.std.specs.Float.Ieee.{lt}
use Rattle.float.specs.Float.{zero64}
use Rattle.store.specs.Region.{at, idx}
use Rattle.aggregation.specs.Pairs.{Weighted}

-- a pattern of n rows and m entries is in range: each row's entries are among the m, and each column is a row
pub record InRange (n m : ℕ) (offsets columns : List ℕ) : Type 0 where
  pub ends : (k : ℕ) → k ≤ n → idx offsets k ≤ m
  pub below : (e : ℕ) → e < m → idx columns e < n

-- no off-diagonal weight exceeds zero
pub record NoneAbove (a : Weighted) : Type 0 where
  pub none : (row e : ℕ) → row < a.rows → idx a.offsets row ≤ e → e < idx a.offsets (row + 1)
      → (idx a.columns e ≡ row → ⊥) → lt zero64 (at a.weights e) ≡ false
