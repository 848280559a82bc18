-- What the loops of this crate leave of the records that they write one by one.
use mathlib.Core.Path.{◌≡◌}
use Prim.Native.Nat.{ℕ, ◌<◌, ◌≤◌}
use mathlib.Core.List.{List}
use lib.ListN.{length, get_or}
use Rattle.store.specs.Region.{idx}
use Rattle.solver.specs.Statistics.{unvisited, counted_at}
use Rattle.solver.specs.declared.statistics.MultigridLevelStatistics.{MultigridLevelStatistics}

-- The first i of n records are those that a build leaves.
pub record Fresh (cells : List ℕ) (n i : ℕ) (zs : List MultigridLevelStatistics) : Type 0 where
  pub within : i ≤ n
  pub long : length zs ≡ n
  pub each : (j : ℕ) → j < i → get_or zs j (unvisited 0) ≡ unvisited (idx cells j)

-- Of n records the first i have what a solve counted, and the others are those of ys.
pub record Counting (counts : List ℕ) (levels : ℕ) (ys : List MultigridLevelStatistics) (i : ℕ) (zs : List MultigridLevelStatistics) : Type 0 where
  pub within : i ≤ levels
  pub long : length zs ≡ length ys
  pub counted : (j : ℕ) → j < i → get_or zs j (unvisited 0) ≡ counted_at counts j (get_or ys j (unvisited 0))
  pub others : (j : ℕ) → i ≤ j → get_or zs j (unvisited 0) ≡ get_or ys j (unvisited 0)
