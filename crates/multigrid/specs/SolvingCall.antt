-- `solve` of mod.rs: what it ensures of any handle and any stores. Definitions only.
use Rattle.solver.specs.declared.solver.LinearSolveReport.{LinearSolveReport}
use Rattle.refusal.specs.declared.Refusal.{Refusal}
use Rattle.std.specs.Prelude.{◌≡◌, false, List, ℕ, length, Float, Result}
use Rattle.store.specs.Region.{Kept}
use Rattle.options.specs.declared.options.Handle.{Handle}
use Rattle.solver.specs.declared.solver.LinearSolverOptions.{LinearSolverOptions}
use Rattle.refusal.specs.Refusal.{unsound_stores}
use Rattle.refusal.specs.Outcome.{Outcome, accepted, refused, ask}
use Rattle.layout.specs.Layout.{view_of}
use Rattle.index_check.specs.Sound.{scratch_start, sound_of}
use Rattle.solver.specs.declared.statistics.MultigridLevelStatistics.{MultigridLevelStatistics}
use Rattle.solver.specs.Statistics.{counted_on}
use Rattle.iterations.specs.Iterate.{Solution, answer_of}
use Rattle.solve.specs.Solved.{solved_at, solution_of}

-- a solve with so many records of statistics: question 19, and then that of the hierarchy in the stores
abbrev pub solved_of : Handle → List ℕ → List Float → ℕ → List Float → List Float → LinearSolverOptions → Outcome Solution
solved_of h w F records rhs x s = ask (sound_of h w (length F) records) unsound_stores (solved_at h w F rhs x s)

-- the statistics after a solve: what it counted is added to the records of the levels; as they were where the solve is refused
abbrev pub records_of : ℕ → List MultigridLevelStatistics → Outcome Solution → List MultigridLevelStatistics
records_of levels t (accepted v) = counted_on levels 0 v.counts t
records_of levels t (refused q) = t

-- What a solve with the stores w and F and the statistics t leaves: G, u and, in place of x, y; and its answer r. Nothing below the scratch
-- changed and the hierarchy in the stores is as it was; refused by question 19, every float is.
pub record SolveCall (h : Handle) (w : List ℕ) (F G : List Float) (t u : List MultigridLevelStatistics) (rhs x y : List Float) (s : LinearSolverOptions) (r : Result LinearSolveReport Refusal) : Type 0 where
  pub answer : r ≡ answer_of (solved_of h w F (length t) rhs x s)
  pub solution : y ≡ solution_of x (solved_of h w F (length t) rhs x s)
  pub statistics : u ≡ records_of h.levels t (solved_of h w F (length t) rhs x s)
  pub floats : Kept (scratch_start h.levels w) F G
  pub view : view_of h.levels w G 0 ≡ view_of h.levels w F 0
  pub unsound : sound_of h w (length F) (length t) ≡ false → G ≡ F
