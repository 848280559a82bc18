-- What the build, an update and a solve of a run are: the calls, on as much of the arrays as the run's matrix has. Definitions only.
use Rattle.solver.specs.declared.solver.LinearSolveReport.{LinearSolveReport}
use Rattle.refusal.specs.declared.Refusal.{Refusal}
use Rattle.std.specs.Prelude.{◌≡◌, cond, List, [], ℕ, ◌+◌, min, take, drop, Float, Result}
use Rattle.hierarchy.specs.Build.{Input}
use Rattle.build.specs.Steps.{input_of}
use Rattle.solver.specs.declared.solver.LinearSolverOptions.{LinearSolverOptions}
use Rattle.multigrid.specs.UpdatingCall.{UpdateCall}
use Rattle.lists.specs.Numbers.{records_lent}
use Rattle.lists.specs.Calls.{BuildOver, SolveOver}
use Rattle.options.specs.declared.options.MultigridOptions.{MultigridOptions}
use Rattle.options.specs.declared.options.Handle.{Handle}
use Rattle.record_order.specs.declared.Came.{Came}

-- the rows of a run's matrix: 64 at most, as in a problem file
abbrev pub run_rows : Came → ℕ
run_rows p = min p.rows 64

-- of the offsets, one more than rows
abbrev pub run_offsets : Came → List ℕ → List ℕ
run_offsets p offsets = take (run_rows p + 1) offsets

-- of columns, values and weights, as many as entries
abbrev pub run_entries : {A : Type 0} → Came → List A → List A
run_entries p l = take p.entries l

-- of a right-hand side or a start, as many as rows
abbrev pub run_vector : Came → List Float → List Float
run_vector p x = take p.rows x

-- what is built: the matrix with the run's controls, and with the weights where these came
abbrev pub run_input : Came → MultigridOptions → List ℕ → List ℕ → List Float → List Float → Input
run_input p o offsets columns values weights =
    input_of (run_rows p) (run_offsets p offsets) (run_entries p columns) (run_entries p values) p.weights
    (cond p.weights (run_entries p weights) []) o

-- the build of a run
abbrev pub RunBuild : Came → MultigridOptions → List ℕ → List ℕ → List Float → List Float → List ℕ → List ℕ → List Float → List Float → List ℕ → List ℕ → Result Handle Refusal → Type 0
RunBuild p o offsets columns values weights w z F G S S' r = BuildOver w z F G S S' (run_input p o offsets columns values weights) r

-- an update of a run
abbrev pub RunUpdate : Came → Handle → List ℕ → List ℕ → List Float → List ℕ → List Float → List Float → List ℕ → Result Unit Refusal → Type 0
RunUpdate p h offsets columns renewed w F G S r =
    UpdateCall h w F G (records_lent S) (run_offsets p offsets) (run_entries p columns) (run_entries p renewed) r

-- A solve of a run: the call, and the elements of x behind the rows as they were.
pub record RunSolve (p : Came) (h : Handle) (s : LinearSolverOptions) (rhs x y : List Float) (w : List ℕ) (F G : List Float) (S S' : List ℕ) (r : Result LinearSolveReport Refusal) : Type 0 where
  pub call : SolveOver h w F G S S' (run_vector p rhs) (run_vector p x) (run_vector p y) s r
  pub rest : drop p.rows y ≡ drop p.rows x
