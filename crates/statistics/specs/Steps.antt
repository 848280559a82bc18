-- What a step of publishing ensures. Definitions only.
use Rattle.std.specs.Prelude.{◌≡◌, List, ℕ, ◌<◌, ◌≤◌}
use Rattle.store.specs.Region.{idx}
use Rattle.solver.specs.Statistics.{unvisited}
use Rattle.solver.specs.declared.statistics.MultigridLevelStatistics.{MultigridLevelStatistics}

-- The record that a build leaves at a depth, where it tells the rows of 128 depths at most.
pub record FreshAt (cells : List ℕ) (depth : ℕ) (r : MultigridLevelStatistics) : Type 0 where
  pub told : depth < 128 → r ≡ unvisited (idx cells depth)
  pub none : 128 ≤ depth → r ≡ unvisited 0
