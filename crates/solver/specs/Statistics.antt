-- The statistics of a level (cycle.rs), and what a solve adds to them. Definitions only.
use Rattle.std.specs.Prelude.{List, [], ◌∷◌, ℕ, zero, suc, ◌+◌, ◌*◌}
use Rattle.float.specs.Saturating.{saturating_sum}
use Rattle.store.specs.Region.{idx}
use Rattle.solver.specs.declared.statistics.MultigridLevelStatistics.{MultigridLevelStatistics}

-- the record of a level of so many rows that nobody has visited
abbrev pub unvisited : ℕ → MultigridLevelStatistics
unvisited rows = record { cells = rows; visits = 0; pre_sweeps = 0; post_sweeps = 0; coarse_iterations = 0 }

-- the record of the level at that depth, with what a solve counted there: four numbers to a level, its visits, the sweeps before
-- and after the correction, and the coarse iterations
unfoldable pub counted_at : List ℕ → ℕ → MultigridLevelStatistics → MultigridLevelStatistics
counted_at counts depth r = record {
  cells = r.cells;
  visits = saturating_sum r.visits (idx counts (4 * depth));
  pre_sweeps = saturating_sum r.pre_sweeps (idx counts (4 * depth + 1));
  post_sweeps = saturating_sum r.post_sweeps (idx counts (4 * depth + 2));
  coarse_iterations = saturating_sum r.coarse_iterations (idx counts (4 * depth + 3));
}

-- the records of so many levels, the first of them at that depth, with what a solve counted there; those behind them stay
unfoldable pub counted_on : ℕ → ℕ → List ℕ → List MultigridLevelStatistics → List MultigridLevelStatistics
counted_on zero depth counts t = t
counted_on (suc more) depth counts [] = []
counted_on (suc more) depth counts (r ∷ t) = counted_at counts depth r ∷ counted_on more (depth + 1) counts t
