-- What publishing the records of a build and counting those of a solve require and ensure. Definitions only.
use Rattle.solver.specs.declared.solver.LinearSolveReport.{LinearSolveReport}
use Rattle.options.specs.declared.options.Handle.{Handle}
use Rattle.refusal.specs.declared.Refusal.{Refusal}
use Rattle.std.specs.Prelude.{◌≡◌, List, ℕ, ◌≤◌, ◌<◌, length, get_or, Result}
use Rattle.solver.specs.Statistics.{unvisited, counted_at}
use Rattle.solver.specs.declared.answers.BuildRun.{BuildRun}
use Rattle.solver.specs.declared.answers.SolveRun.{SolveRun}
use Rattle.solver.specs.declared.statistics.MultigridLevelStatistics.{MultigridLevelStatistics}

-- Of the records s a build made t: each is that of a level of so many rows as `cells` tells that nobody has visited, none where it tells none.
pub record Published (cells : List ℕ) (s t : List MultigridLevelStatistics) : Type 0 where
  pub as_many : length t ≡ length s
  pub each : (i : ℕ) → i < length s → get_or t i (unvisited 0) ≡ unvisited (get_or cells i 0)

-- Of the records s a solve made t: those of so many levels have what it counted, the others are as they were.
pub record CountedUp (counts : List ℕ) (levels : ℕ) (s t : List MultigridLevelStatistics) : Type 0 where
  pub as_many : length t ≡ length s
  pub counted : (i : ℕ) → i < levels → get_or t i (unvisited 0) ≡ counted_at counts i (get_or s i (unvisited 0))
  pub others : (i : ℕ) → levels ≤ i → get_or t i (unvisited 0) ≡ get_or s i (unvisited 0)

-- What publishing a build's run over the records s leaves: t, and the answer r.
pub record PublishDone (run : BuildRun) (s t : List MultigridLevelStatistics) (r : Result Handle Refusal) : Type 0 where
  pub answer : r ≡ run.answer
  pub records : Published run.cells s t

-- What counting requires: a record for each level, and no more levels than a solve counts.
pub record CountOk (levels records : ℕ) : Type 0 where
  pub counted : levels ≤ 128
  pub room : levels ≤ records

-- What counting a solve's run up over the records s leaves: t, and the answer r.
pub record CountDone (run : SolveRun) (s t : List MultigridLevelStatistics) (r : Result LinearSolveReport Refusal) : Type 0 where
  pub answer : r ≡ run.answer
  pub records : CountedUp run.counts run.levels s t
