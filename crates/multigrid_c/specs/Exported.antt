-- What the exported calls ensure: what the call ensures, and its answer as a struct. Definitions only.
use Rattle.solver.specs.declared.solver.LinearSolveReport.{LinearSolveReport}
use Rattle.refusal.specs.declared.Refusal.{Refusal}
use Rattle.std.specs.Prelude.{◌≡◌, List, ℕ, Float, length, Result}
use Rattle.hierarchy.specs.Build.{Input, build_of}
use Rattle.options.specs.declared.options.Handle.{Handle}
use Rattle.solver.specs.declared.solver.LinearSolverOptions.{LinearSolverOptions}
use Rattle.solver.specs.declared.statistics.MultigridLevelStatistics.{MultigridLevelStatistics}
use Rattle.build.specs.Built.{lent_of, built_of}
use Rattle.update.specs.Updated as refresh
use Rattle.iterations.specs.Iterate as iterating
use Rattle.export.specs.declared.structs.OptionsForC.{OptionsForC}
use Rattle.export.specs.declared.structs.AnswerForC.{AnswerForC}
use Rattle.export.specs.declared.structs.BuiltForC.{BuiltForC}
use Rattle.export.specs.declared.structs.ReportForC.{ReportForC}
use Rattle.export.specs.declared.structs.CountForC.{CountForC}
use Rattle.export.specs.Structs.{built_struct, updated_struct, solved_struct, counted_struct}
use Rattle.multigrid.specs.New.{NewDone}
use Rattle.multigrid.specs.UpdatingCall.{UpdateCall, updated_of}
use Rattle.multigrid.specs.SolvingCall.{SolveCall, solved_of}
use Rattle.multigrid.specs.CountingCall.{counted_of}

-- the answer to a build in stores w and F with so many records of statistics
abbrev pub built_by : List ℕ → List Float → ℕ → Input → Result Handle Refusal
built_by w F records x = built_of x (build_of (lent_of w F records) x)

-- What a build with the controls of a struct o ensures: what the call ensures, and its answer as a struct.
pub record BuildExported (w z : List ℕ) (F G : List Float) (s t : List MultigridLevelStatistics) (x : Input) (o : OptionsForC) (r : BuiltForC) : Type 0 where
  pub done : NewDone w z F G s t x (built_by w F (length s) x)
  pub told : r ≡ built_struct o (built_by w F (length s) x)

-- the answer to an update of stores w and F with so many records of statistics
abbrev pub updated_by : Handle → List ℕ → List Float → ℕ → List ℕ → List ℕ → List Float → Result Unit Refusal
updated_by h w F records offsets columns values = refresh.updated_answer (updated_of h w F records offsets columns values)

-- What an update ensures: what the call ensures, and its answer as a struct.
pub record UpdateExported (h : Handle) (w : List ℕ) (F G : List Float) (records : ℕ) (offsets columns : List ℕ) (values : List Float) (r : AnswerForC) : Type 0 where
  pub done : UpdateCall h w F G records offsets columns values (updated_by h w F records offsets columns values)
  pub told : r ≡ updated_struct (updated_by h w F records offsets columns values)

-- the answer to a solve with the stores w and F and so many records of statistics
abbrev pub solved_by : Handle → List ℕ → List Float → ℕ → List Float → List Float → LinearSolverOptions → Result LinearSolveReport Refusal
solved_by h w F records rhs x s = iterating.answer_of (solved_of h w F records rhs x s)

-- What a solve ensures: what the call ensures, and its answer as a struct.
pub record SolveExported (h : Handle) (w : List ℕ) (F G : List Float) (t u : List MultigridLevelStatistics) (rhs x y : List Float) (s : LinearSolverOptions) (r : ReportForC) : Type 0 where
  pub done : SolveCall h w F G t u rhs x y s (solved_by h w F (length t) rhs x s)
  pub told : r ≡ solved_struct (solved_by h w F (length t) rhs x s)

-- What `statistics` ensures: the call's answer as a struct.
pub record CountExported (h : Handle) (w : List ℕ) (F : List Float) (records : ℕ) (r : CountForC) : Type 0 where
  pub told : r ≡ counted_struct (counted_of h w F records)
