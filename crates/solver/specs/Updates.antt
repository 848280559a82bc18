-- What the updaters of a record give. Definitions only.
use Rattle.std.specs.Prelude.{ℕ}
use Rattle.float.specs.Saturating.{saturating_sum}
use Rattle.solver.specs.declared.statistics.MultigridLevelStatistics.{MultigridLevelStatistics}

-- a record with so many visits more
abbrev pub add_visits : ℕ → MultigridLevelStatistics → MultigridLevelStatistics
add_visits more r = record {
  cells = r.cells;
  visits = saturating_sum r.visits more;
  pre_sweeps = r.pre_sweeps;
  post_sweeps = r.post_sweeps;
  coarse_iterations = r.coarse_iterations;
}

-- so many sweeps before the correction more
abbrev pub add_pre_sweeps : ℕ → MultigridLevelStatistics → MultigridLevelStatistics
add_pre_sweeps more r = record {
  cells = r.cells;
  visits = r.visits;
  pre_sweeps = saturating_sum r.pre_sweeps more;
  post_sweeps = r.post_sweeps;
  coarse_iterations = r.coarse_iterations;
}

-- so many after it more
abbrev pub add_post_sweeps : ℕ → MultigridLevelStatistics → MultigridLevelStatistics
add_post_sweeps more r = record {
  cells = r.cells;
  visits = r.visits;
  pre_sweeps = r.pre_sweeps;
  post_sweeps = saturating_sum r.post_sweeps more;
  coarse_iterations = r.coarse_iterations;
}

-- so many iterations of the coarse solver more
abbrev pub add_coarse_iterations : ℕ → MultigridLevelStatistics → MultigridLevelStatistics
add_coarse_iterations more r = record {
  cells = r.cells;
  visits = r.visits;
  pre_sweeps = r.pre_sweeps;
  post_sweeps = r.post_sweeps;
  coarse_iterations = saturating_sum r.coarse_iterations more;
}
