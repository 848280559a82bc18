-- A solve in lent stores: what it requires and ensures. Definitions only.
use Rattle.solver.specs.declared.solver.LinearSolveReport.{LinearSolveReport}
use Rattle.std.specs.Prelude.{◌≡◌, List, ℕ, Float, Result, Ok, Err}
use Rattle.store.specs.Region.{Kept}
use Rattle.options.specs.declared.options.Handle.{Handle}
use Rattle.refusal.specs.declared.Refusal.{Refusal}
use Rattle.refusal.specs.Outcome.{Outcome, accepted, refused}
use Rattle.index_check.specs.Sound.{scratch_start}
use Rattle.solver.specs.declared.answers.SolveRun.{SolveRun}
use Rattle.iterations.specs.Iterate.{Solution, answer_of}
use Rattle.solve.specs.Solve.{uncounted, empty_report}
use Rattle.solve.specs.Solved.{solution_of}

-- on how many of so many levels a solve counted: on none where it is refused
abbrev pub levels_counted : ℕ → Outcome Solution → ℕ
levels_counted levels (accepted v) = levels
levels_counted levels (refused q) = 0

-- what a solve that counted on no level gives its call
abbrev pub uncounted_run : Result LinearSolveReport Refusal → SolveRun
uncounted_run answer = record { answer = answer; levels = 0; counts = uncounted }

-- one that is refused
abbrev pub refused_run : Refusal → SolveRun
refused_run q = uncounted_run (Err q)

-- and one of no levels
abbrev pub empty_run : SolveRun
empty_run = uncounted_run (Ok empty_report)

-- What a solve whose outcome is `out` ensures: its answer and solution, on how many levels it counted and what; and nothing below the
-- scratch changed.
pub record SolveDone (h : Handle) (w : List ℕ) (F G x y : List Float) (out : Outcome Solution) (run : SolveRun) : Type 0 where
  pub answer : run.answer ≡ answer_of out
  pub solution : y ≡ solution_of x out
  pub levels : run.levels ≡ levels_counted h.levels out
  pub counts : (v : Solution) → out ≡ accepted v → run.counts ≡ v.counts
  pub floats : Kept (scratch_start h.levels w) F G
