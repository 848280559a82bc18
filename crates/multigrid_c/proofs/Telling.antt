-- What a call ensures, of what is read from structs, and its answer told as a struct, are what its export ensures: the answer is the one that the definition gives.
-- Assumes nothing.
use Rattle.load.specs.declared.loading.Size.{Size}
use Rattle.solver.specs.declared.solver.LinearSolveReport.{LinearSolveReport}
use Rattle.refusal.specs.declared.Refusal.{Refusal}
use Rattle.std.specs.Prelude.{Result}
use mathlib.Core.Path.{◌≡◌}
use mathlib.Core.Bool.{Bool}
use mathlib.Core.List.{List}
use Prim.Native.Nat.{ℕ}
use lib.Ieee.{Float}
use Rattle.options.specs.declared.options.Handle.{Handle}
use Rattle.options.specs.declared.options.MultigridOptions.{MultigridOptions}
use Rattle.solver.specs.declared.solver.LinearSolverOptions.{LinearSolverOptions}
use Rattle.solver.specs.declared.statistics.MultigridLevelStatistics.{MultigridLevelStatistics}
use Rattle.build.specs.Steps.{input_of}
use Rattle.export.specs.declared.structs.OptionsForC.{OptionsForC}
use Rattle.export.specs.declared.structs.HierarchyForC.{HierarchyForC}
use Rattle.export.specs.declared.structs.AnswerForC.{AnswerForC}
use Rattle.export.specs.declared.structs.BuiltForC.{BuiltForC}
use Rattle.export.specs.declared.structs.ReportForC.{ReportForC}
use Rattle.export.specs.declared.structs.CountForC.{CountForC}
use Rattle.export.specs.Structs.{controls_of, handle_of, limits_of, built_struct, updated_struct, solved_struct, counted_struct}
use Rattle.multigrid.specs.New.{NewDone}
use Rattle.multigrid.specs.UpdatingCall.{UpdateCall}
use Rattle.multigrid.specs.SolvingCall.{SolveCall}
use Rattle.multigrid.specs.CountingCall.{counted_of}
use Rattle.load.specs.Load.{Load}
use Rattle.load.specs.Call.{Loading}
use Rattle.refusal.specs.Outcome.{Outcome}
use Rattle.multigrid_c.specs.declared.loads.LoadedForC.{LoadedForC}
use Rattle.multigrid_c.specs.Exported.{BuildExported, UpdateExported, SolveExported, CountExported}
use Rattle.multigrid_c.specs.Loads.{loaded_struct, LoadExported}

-- A build.
pub build_exported : {w z : List ℕ} {F G : List Float} {s t : List MultigridLevelStatistics} {n : ℕ} {offsets columns : List ℕ} {values : List Float} {given : Bool} {weights : List Float}
    {o : OptionsForC} {c : MultigridOptions} {b : Result Handle Refusal} {r : BuiltForC}
    → c ≡ controls_of o → NewDone w z F G s t (input_of n offsets columns values given weights c) b → r ≡ built_struct o b
    → BuildExported w z F G s t (input_of n offsets columns values given weights (controls_of o)) o r
build_exported read done told =
    let done' = rw read at done in record { done = rw done'.built.answer at done'; told = rw done'.built.answer at told }

-- An update.
pub update_exported : (h : HierarchyForC) {k : Handle} {w : List ℕ} {F G : List Float} {records : ℕ} {offsets columns : List ℕ} {values : List Float} {b : Result Unit Refusal} {r : AnswerForC}
    → k ≡ handle_of h → UpdateCall k w F G records offsets columns values b → r ≡ updated_struct b → UpdateExported (handle_of h) w F G records offsets columns values r
update_exported h read done told =
    let done' = rw read at done in record { done = rw done'.done.answer at done'; told = rw done'.done.answer at told }

-- A solve.
pub solve_exported : (h : HierarchyForC) {k : Handle} {w : List ℕ} {F G : List Float} {t u : List MultigridLevelStatistics} {rhs x y : List Float} {absolute relative : Float} {limit : ℕ}
    {s : LinearSolverOptions} {b : Result LinearSolveReport Refusal} {r : ReportForC}
    → k ≡ handle_of h → s ≡ limits_of absolute relative limit → SolveCall k w F G t u rhs x y s b → r ≡ solved_struct b
    → SolveExported (handle_of h) w F G t u rhs x y (limits_of absolute relative limit) r
solve_exported h read limits done told =
    let done' = rw limits at (rw read at done) in record { done = rw done'.answer at done'; told = rw done'.answer at told }

-- The statistics.
pub count_exported : (h : HierarchyForC) {k : Handle} {w : List ℕ} {F : List Float} {records : ℕ} {b : Result ℕ Refusal} {r : CountForC}
    → k ≡ handle_of h → b ≡ counted_of k w F records → r ≡ counted_struct b → CountExported (handle_of h) w F records r
count_exported h read counted told = record { told = rw (rw read at counted) at told }

-- A load.
pub load_exported : {o : Outcome Load} {O O' C C' : List ℕ} {F F' : List Float} {b : Result Size Refusal} {r : LoadedForC}
    → Loading o O O' C C' F F' b → r ≡ loaded_struct b → LoadExported o O O' C C' F F' r
load_exported done told = record { done = rw done.answer at done; told = rw done.answer at told }
