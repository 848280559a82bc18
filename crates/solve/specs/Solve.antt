-- `solve` of mod.rs over lists, with questions 20 to 30 in the order of the Rust. Definitions only.
use Rattle.std.specs.Prelude.{cond, List, [], ℕ, eqb, length, Float}
use Rattle.std.specs.Float.Ieee.{le}
use Rattle.float.specs.Float.{is_finite, zero64}
use Rattle.store.specs.Vector.{filled}
use Rattle.solver.specs.declared.solver.LinearSolverOptions.{LinearSolverOptions}
use Rattle.solver.specs.declared.solver.LinearSolverStatus.{LinearSolverStatus}
use Rattle.solver.specs.declared.solver.LinearSolveReport.{LinearSolveReport}
use Rattle.refusal.specs.Refusal.{wrong_length, bad_input, bad_normalization}
use Rattle.refusal.specs.Outcome.{Outcome, accepted, ask, ◌>>=◌, ◌>>◌}
use Rattle.matrix.specs.Kernel.{apply_of}
use Rattle.solver.specs.Solver.{threshold_of}
use Rattle.residual_norm.specs.Normalization.{normalization_of}
use Rattle.iterations.specs.Iteration.{State, System, true_residual_of, measured_of}
use Rattle.solve.specs.Input.{lengths_ok, input_ok}
use Rattle.iterations.specs.Iterate.{Solution, solution, iterate_of}

-- the counters that a solve starts from: nothing counted yet, four numbers to each of 128 levels, the most that there are
abbrev pub uncounted : List ℕ
uncounted = filled 512 0

-- the state before the first iteration
abbrev pub begun : List Float → List Float → Float → State
begun x residual initial = record { x = x; residual = residual; memory = []; counts = uncounted; last = initial }

-- a solve whose input has passed, with the normalization `factor`: the first residual (23), and the iterations unless it is small enough
unfoldable pub run_of : System → LinearSolverOptions → List Float → List Float → Float → Outcome Solution
run_of y s rhs x factor = do
  let residual = true_residual_of y rhs factor x
  initial ← measured_of y rhs factor residual
  let threshold = threshold_of s.absolute_tolerance s.relative_tolerance initial
  let start = begun x residual initial
  cond (le initial threshold) (accepted (solution LinearSolverStatus.Converged 0 initial start))
      (iterate_of y rhs factor initial threshold s.max_iterations 0 start)

-- `factor` of mod.rs for that right-hand side and start
abbrev pub factor_of : System → List Float → List Float → Float
factor_of y rhs x = normalization_of y.options.residual_norm y.kernel.rows x rhs (apply_of y.kernel x) y.sums

-- `solve` from question 22 on
abbrev pub attempt_of : System → LinearSolverOptions → List Float → List Float → Outcome Solution
attempt_of y s rhs x = ask (is_finite (factor_of y rhs x)) bad_normalization (run_of y s rhs x (factor_of y rhs x))

-- the report of a solve of no levels: converged before the first iteration. Its residuals are said to be plus zero and not computed, since an
-- empty sum is minus zero and the mean of no numbers a NaN.
abbrev pub empty_report : LinearSolveReport
empty_report = record {
  status = LinearSolverStatus.Converged;
  iterations = 0;
  initial_residual = zero64;
  final_residual = zero64;
  relative_residual = zero64;
}

-- a solve of no levels: the solution is the start, which has no rows, and nothing is counted
abbrev pub empty_solution : List Float → Solution
empty_solution x = record { report = empty_report; x = x; counts = uncounted }

-- `solve`: questions 20 and 21 of its input, and the rest where there is a level
unfoldable pub solve_of : System → LinearSolverOptions → List Float → List Float → Outcome Solution
solve_of y s rhs x = do
  ask (lengths_ok y.kernel.rows rhs x) wrong_length
  ask (input_ok s rhs x) bad_input
  cond (eqb (length y.levels) 0) (accepted (empty_solution x)) (attempt_of y s rhs x)
