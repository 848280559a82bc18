-- The solve's default controls and the meaning of its status (solver.rs), and when and how well it has converged (mod.rs). Definitions only.
use Rattle.std.specs.Prelude.{Bool, true, false, cond, ℕ, ◌^◌, Float}
use Rattle.std.specs.Float.Ieee.{lt}
use Rattle.float.specs.Float.{ratio, max_num, mul64, div64, zero64}
use Rattle.solver.specs.declared.solver.LinearSolverOptions.{LinearSolverOptions}
use Rattle.solver.specs.declared.solver.LinearSolverStatus.{LinearSolverStatus}
use Rattle.solver.specs.declared.solver.LinearSolveReport.{LinearSolveReport}

-- `Default` of solver.rs
unfoldable pub default_solver : LinearSolverOptions
default_solver = record {
  absolute_tolerance = ratio 1 (10 ^ 10);
  relative_tolerance = ratio 1 (10 ^ 8);
  max_iterations = 1000;
}

-- `converged` of solver.rs
abbrev pub converged_of : LinearSolverStatus → Bool
converged_of LinearSolverStatus.Converged = true
converged_of LinearSolverStatus.MaxIterations = false

-- `threshold` of mod.rs
abbrev pub threshold_of : Float → Float → Float → Float
threshold_of absolute relative initial = max_num absolute (mul64 relative initial)

-- `relative_residual` of mod.rs
unfoldable pub relative_of : Float → Float → Float
relative_of initial last = cond (lt zero64 initial) (div64 last initial) zero64

-- `report` of mod.rs
abbrev pub report_of : LinearSolverStatus → ℕ → Float → Float → LinearSolveReport
report_of status iterations initial last =
    record { status = status; iterations = iterations; initial_residual = initial; final_residual = last; relative_residual = relative_of initial last }
