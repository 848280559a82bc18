-- The work of a solve: what an accepted one adds to the statistics of each level, by the controls, the number of levels and the iterations that
-- it reports. Definitions only.
use Rattle.std.specs.Prelude.{cond, ℕ, zero, suc, ◌+◌, ◌*◌, ltb}
use Rattle.float.specs.Saturating.{saturating_sum}
use Rattle.options.specs.declared.options.MultigridOptions.{MultigridOptions}
use Rattle.options.specs.Counts.{pre_sweeps_of, post_sweeps_of}
use Rattle.solver.specs.declared.statistics.MultigridLevelStatistics.{MultigridLevelStatistics}

-- ---- the level at a depth, of so many levels

-- how often one iteration visits it
abbrev pub visits_per : ℕ → ℕ → ℕ
visits_per levels depth = 1

module _ (o : MultigridOptions) (levels depth : ℕ) where
  -- the sweeps before the correction of one visit: the last level has no correction, and makes none
  unfoldable pub pre_of : ℕ
  pre_of = cond (ltb (depth + 1) levels) (pre_sweeps_of o depth) 0

  -- those after it
  unfoldable pub post_of : ℕ
  post_of = cond (ltb (depth + 1) levels) (post_sweeps_of o depth) 0

  -- its record after so many visits more, each counter stopping at 2^64 - 1 by itself; the coarse solver, Cholesky, makes no iteration
  abbrev pub after_visits : ℕ → MultigridLevelStatistics → MultigridLevelStatistics
  after_visits visits r = record {
    cells = r.cells;
    visits = saturating_sum r.visits visits;
    pre_sweeps = saturating_sum r.pre_sweeps (visits * pre_of);
    post_sweeps = saturating_sum r.post_sweeps (visits * post_of);
    coarse_iterations = saturating_sum r.coarse_iterations 0;
  }

  -- and after a solve of so many iterations
  abbrev pub after_iterations : ℕ → MultigridLevelStatistics → MultigridLevelStatistics
  after_iterations iterations r = after_visits (iterations * visits_per levels depth) r

-- ---- the Rust's one number

-- `smoothing_sweeps` of a record
abbrev pub sweeps_of : MultigridLevelStatistics → ℕ
sweeps_of r = saturating_sum r.pre_sweeps r.post_sweeps

-- `smoothing_sweeps` of cycle.rs from that number on, after so many visits more with so many sweeps before and after the correction: each visit adds both at once
unfoldable pub smoothing_sweeps_of : ℕ → ℕ → ℕ → ℕ → ℕ
smoothing_sweeps_of zero pre post sweeps = sweeps
smoothing_sweeps_of (suc visits) pre post sweeps = smoothing_sweeps_of visits pre post (saturating_sum sweeps (pre + post))
