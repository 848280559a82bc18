-- Residuals down to the aggregates and corrections up from them (cycle.rs), over lists. Definitions only.
use Rattle.std.specs.Prelude.{List, ℕ, ◌+◌, ◌≤◌, ◌<◌, length, set, Float}
use Rattle.float.specs.Float.{add64, zero64}
use Rattle.store.specs.Loop.{for}
use Rattle.store.specs.Region.{at, idx}
use Rattle.store.specs.Vector.{tab, filled}

-- `coarse_rhs` of cycle.rs: the residuals of n rows, added up over each of the `count` aggregates from +0
unfoldable pub restrict_of : ℕ → ℕ → List ℕ → List Float → List Float
restrict_of count n map residual = for (λ row v. set v (idx map row) (add64 (at v (idx map row)) (at residual row))) 0 n (filled count zero64)

-- `correction` of cycle.rs: for each of n rows the coarse solution at its aggregate
unfoldable pub prolong_of : ℕ → List ℕ → List Float → List Float
prolong_of n map coarse = tab (λ row. at coarse (idx map row)) n

-- the map of n rows to `count` aggregates in the words; the residual below the sums in a store of that size
pub record RestrictOk (w : List ℕ) (size n count map residual out : ℕ) : Type 0 where
  pub maps : map + n ≤ length w
  pub residuals : residual + n ≤ out
  pub outs : out + count ≤ size
  pub near : (row : ℕ) → row < n → idx w (map + row) < count

-- the map likewise; the correction, or the x that takes it, below the coarse solution
pub record ProlongOk (w : List ℕ) (size n count map coarse out : ℕ) : Type 0 where
  pub maps : map + n ≤ length w
  pub outs : out + n ≤ coarse
  pub coarses : coarse + count ≤ size
  pub near : (row : ℕ) → row < n → idx w (map + row) < count

-- ---- the turns of the loops above, by the names that proofs have for them

-- one row's residual, added to its aggregate's sum
unfoldable pub gather_turn : List ℕ → List Float → ℕ → List Float → List Float
gather_turn map residual row v = set v (idx map row) (add64 (at v (idx map row)) (at residual row))

-- v with the residuals of n rows added, each at its aggregate, in row order
unfoldable pub gather_of : ℕ → List ℕ → List Float → List Float → List Float
gather_of n map residual v = for (gather_turn map residual) 0 n v
