-- The iterations of `solve` of mod.rs over lists, and what a solve gives. Definitions only.
use Rattle.refusal.specs.declared.Refusal.{Refusal}
use Rattle.std.specs.Prelude.{cond, List, ℕ, zero, suc, ◌+◌, Float, Result, Ok, Err}
use Rattle.std.specs.Float.Ieee.{le}
use Rattle.solver.specs.declared.solver.LinearSolverStatus.{LinearSolverStatus}
use Rattle.solver.specs.declared.solver.LinearSolveReport.{LinearSolveReport}
use Rattle.solver.specs.Solver.{report_of}
use Rattle.refusal.specs.Outcome.{Outcome, accepted, refused, ◌>>=◌}
use Rattle.iterations.specs.Iteration.{State, System, step_of}

-- what an accepted solve gives: its report, the solution and what it counted
pub record Solution : Type 0 where
  pub report : LinearSolveReport
  pub x : List Float
  pub counts : List ℕ

-- a state with its report
abbrev pub solution : LinearSolverStatus → ℕ → Float → State → Solution
solution status iterations initial s =
    record { report = report_of status iterations initial s.last; x = s.x; counts = s.counts }

module _ (y : System) (rhs : List Float) (factor initial threshold : Float) where
  -- so many iterations at most, after `done`
  unfoldable pub iterate_of : ℕ → ℕ → State → Outcome Solution
  iterate_of zero done s = accepted (solution LinearSolverStatus.MaxIterations done initial s)
  iterate_of (suc more) done s = do
    t ← step_of y rhs factor s
    cond (le t.last threshold) (accepted (solution LinearSolverStatus.Converged (done + 1) initial t)) (iterate_of more (done + 1) t)

-- the answer
abbrev pub answer_of : Outcome Solution → Result LinearSolveReport Refusal
answer_of (accepted v) = Ok v.report
answer_of (refused q) = Err q
