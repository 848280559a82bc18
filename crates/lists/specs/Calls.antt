-- The calls over statistics that are numbers: each is the call on the records that stand there, and what it leaves of them goes back to
-- their numbers. Definitions only.
use Rattle.solver.specs.declared.solver.LinearSolveReport.{LinearSolveReport}
use Rattle.refusal.specs.declared.Refusal.{Refusal}
use Rattle.std.specs.Prelude.{◌≡◌, ℕ, List, [], ◌++◌, take, drop, Float, Result, is_some, unwrap_or, option_copied}
use Rattle.options.specs.declared.options.Handle.{Handle}
use Rattle.hierarchy.specs.Build.{Input}
use Rattle.build.specs.Steps.{input_of}
use Rattle.solver.specs.declared.solver.LinearSolverOptions.{LinearSolverOptions}
use Rattle.solver.specs.declared.statistics.MultigridLevelStatistics.{MultigridLevelStatistics}
use Rattle.multigrid.specs.New.{NewDone}
use Rattle.multigrid.specs.SolvingCall.{SolveCall}
use Rattle.lists.specs.declared.source.Source.{Source}
use Rattle.lists.specs.Numbers.{records_in, records_lent, with_records}

-- what is built: with the weights where there are any
abbrev pub source_in : Source → Input
source_in s =
    input_of s.rows s.matrix.offsets.now s.matrix.columns.now s.matrix.values.now (is_some s.weights) (unwrap_or (option_copied s.weights) []) s.options

-- A build that is lent the first records of a table: the call's own contract, and the table with what it left in the numbers.
pub record BuildLent (w z : List ℕ) (F G : List Float) (table : List MultigridLevelStatistics) (lent : ℕ) (S S' : List ℕ) (x : Input) (r : Result Handle Refusal) : Type 0 where
  pub records : List MultigridLevelStatistics
  pub call : NewDone w z F G (take lent table) records x r
  pub numbers : S' ≡ with_records (records ++ drop lent table) S

-- A solve that is lent the first records of a table, likewise.
pub record SolveLent (h : Handle) (w : List ℕ) (F G : List Float) (table : List MultigridLevelStatistics) (lent : ℕ) (S S' : List ℕ) (rhs x y : List Float)
    (s : LinearSolverOptions) (r : Result LinearSolveReport Refusal) : Type 0 where
  pub records : List MultigridLevelStatistics
  pub call : SolveCall h w F G (take lent table) records rhs x y s r
  pub numbers : S' ≡ with_records (records ++ drop lent table) S

-- a build over statistics that are numbers
abbrev pub BuildOver : List ℕ → List ℕ → List Float → List Float → List ℕ → List ℕ → Input → Result Handle Refusal → Type 0
BuildOver w z F G S S' x r = BuildLent w z F G (records_in S) (records_lent S) S S' x r

-- a solve over statistics that are numbers
abbrev pub SolveOver : Handle → List ℕ → List Float → List Float → List ℕ → List ℕ → List Float → List Float → List Float → LinearSolverOptions → Result LinearSolveReport Refusal → Type 0
SolveOver h w F G S S' rhs x y s r = SolveLent h w F G (records_in S) (records_lent S) S S' rhs x y s r
