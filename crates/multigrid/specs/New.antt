-- `new` and `new_with_face_weights` of mod.rs: what they ensure. Definitions only.
use Rattle.options.specs.declared.options.Handle.{Handle}
use Rattle.refusal.specs.declared.Refusal.{Refusal}
use Rattle.std.specs.Prelude.{◌≡◌, List, [], ◌∷◌, ℕ, length, Float, Result}
use Rattle.store.specs.Region.{lay}
use Rattle.store.specs.Vector.{filled}
use Rattle.refusal.specs.Outcome.{Outcome, accepted, refused}
use Rattle.hierarchy.specs.Level.{Level, Hierarchy}
use Rattle.hierarchy.specs.Build.{Input, build_of}
use Rattle.solver.specs.declared.statistics.MultigridLevelStatistics.{MultigridLevelStatistics}
use Rattle.solver.specs.Statistics.{unvisited}
use Rattle.build.specs.Built.{lent_of, BuildDone}

-- the statistics of levels that nobody has visited, a record to a level
unfoldable pub unvisited_levels : List Level → List MultigridLevelStatistics
unvisited_levels [] = []
unvisited_levels (l ∷ levels) = unvisited l.shape.pattern.rows ∷ unvisited_levels levels

-- the n records that a build leaves: each level's rows with zero counters, and zeros past the last level; zeros where it refuses
unfoldable pub statistics_of : ℕ → Outcome Hierarchy → List MultigridLevelStatistics
statistics_of n (accepted h) = lay (unvisited_levels h.levels) (filled n (unvisited 0))
statistics_of n (refused q) = filled n (unvisited 0)

-- What a build in lent stores w and F with the records of statistics s leaves: z, G and t, and its answer r.
pub record NewDone (w z : List ℕ) (F G : List Float) (s t : List MultigridLevelStatistics) (x : Input) (r : Result Handle Refusal) : Type 0 where
  pub built : BuildDone w z F G x (length s) r
  pub statistics : t ≡ statistics_of (length s) (build_of (lent_of w F (length s)) x)
