-- Refreshed beside fresh: updates and solves after a build with face weights, and the book that they are held against. Definitions only.
use Rattle.solver.specs.declared.solver.LinearSolveReport.{LinearSolveReport}
use Rattle.refusal.specs.declared.Refusal.{Refusal}
use Rattle.std.specs.Prelude.{◌≡◌, List, [], ◌∷◌, ℕ, length, Float, Result, Ok, Err}
use Rattle.options.specs.declared.options.Handle.{Handle}
use Rattle.solver.specs.declared.solver.LinearSolverOptions.{LinearSolverOptions}
use Rattle.refusal.specs.Outcome.{accepted}
use Rattle.hierarchy.specs.Level.{Hierarchy}
use Rattle.hierarchy.specs.Build.{Lent, Input, build_of}
use Rattle.iterations.specs.Iteration.{system_of}
use Rattle.solve.specs.Solve.{solve_of}
use Rattle.iterations.specs.Iterate.{answer_of}
use Rattle.solve.specs.Solved.{solution_of}
use Rattle.solver.specs.declared.statistics.MultigridLevelStatistics.{MultigridLevelStatistics}
use Rattle.multigrid.specs.UpdatingCall.{UpdateCall}
use Rattle.multigrid.specs.SolvingCall.{SolveCall}

-- ---- the calls

-- a call after the build: its arguments that are neither handle nor stores, and what its caller sees of it
pub data Event : Type 0 where
  -- an update: offsets, columns and values, and the answer
  updated : List ℕ → List ℕ → List Float → Result Unit Refusal → Event
  -- a solve: right-hand side, start and options, the answer, and the solution after it
  solved : List Float → List Float → LinearSolverOptions → Result LinearSolveReport Refusal → List Float → Event

-- Calls with the handle h and the words w, the first with the floats F and the statistics t, each with what the one before left; each meets
-- its contract.
pub data Trace (h : Handle) (w : List ℕ) : List Float → List MultigridLevelStatistics → List Event → Type 0 where
  nothing : {F : List Float} {t : List MultigridLevelStatistics} → Trace h w F t []
  update : {F G : List Float} {t : List MultigridLevelStatistics} {offsets columns : List ℕ} {values : List Float} {r : Result Unit Refusal} {rest : List Event}
      → UpdateCall h w F G (length t) offsets columns values r → Trace h w G t rest
      → Trace h w F t (updated offsets columns values r ∷ rest)
  solve : {F G : List Float} {t u : List MultigridLevelStatistics} {rhs x y : List Float} {s : LinearSolverOptions} {r : Result LinearSolveReport Refusal} {rest : List Event}
      → SolveCall h w F G t u rhs x y s r → Trace h w G u rest
      → Trace h w F t (solved rhs x s r y ∷ rest)

-- the floats as the calls leave them
unfoldable pub floats_after : {h : Handle} {w : List ℕ} {F : List Float} {t : List MultigridLevelStatistics} {events : List Event} → Trace h w F t events → List Float
floats_after {F = F} Trace.nothing = F
floats_after (Trace.update c rest) = floats_after rest
floats_after (Trace.solve c rest) = floats_after rest

-- and the statistics
unfoldable pub statistics_after : {h : Handle} {w : List ℕ} {F : List Float} {t : List MultigridLevelStatistics} {events : List Event} → Trace h w F t events → List MultigridLevelStatistics
statistics_after {t = t} Trace.nothing = t
statistics_after (Trace.update c rest) = statistics_after rest
statistics_after (Trace.solve c rest) = statistics_after rest

-- ---- the book: what it holds are the arguments of a build, at first of the one before the calls

-- the same with other values
abbrev pub with_values : Input → List Float → Input
with_values x values =
    record { rows = x.rows; offsets = x.offsets; columns = x.columns; values = values; given = x.given; weights = x.weights; options = x.options }

-- after an update with those values: accepted, it replaces the values; refused, it changes nothing
abbrev pub booked : Input → List Float → Result Unit Refusal → Input
booked x values (Ok tt) = with_values x values
booked x values (Err q) = x

-- after calls: that of each update, in turn; a solve changes nothing
unfoldable pub book_of : Input → List Event → Input
book_of x [] = x
book_of x (Event.updated offsets columns values r ∷ rest) = book_of (booked x values r) rest
book_of x (Event.solved rhs start s r y ∷ rest) = book_of x rest

-- A solve with the answer r and the solution y has those of the book, which holds x: wherever a build of x in what is lent gives a hierarchy
-- b, they are those of a solve of b.
pub record Fresh (l : Lent) (x : Input) (rhs start : List Float) (s : LinearSolverOptions) (r : Result LinearSolveReport Refusal) (y : List Float) : Type 0 where
  pub answer : (b : Hierarchy) → build_of l x ≡ accepted b → r ≡ answer_of (solve_of (system_of x.options b) s rhs start)
  pub solution : (b : Hierarchy) → build_of l x ≡ accepted b → y ≡ solution_of start (solve_of (system_of x.options b) s rhs start)

-- Each solve among calls has the answer and the solution of the book, which holds x before the first of them.
pub data Agrees (l : Lent) : Input → List Event → Type 0 where
  nothing : {x : Input} → Agrees l x []
  update : {x : Input} {offsets columns : List ℕ} {values : List Float} {r : Result Unit Refusal} {rest : List Event}
      → Agrees l (booked x values r) rest
      → Agrees l x (updated offsets columns values r ∷ rest)
  solve : {x : Input} {rhs start y : List Float} {s : LinearSolverOptions} {r : Result LinearSolveReport Refusal} {rest : List Event}
      → Fresh l x rhs start s r y → Agrees l x rest
      → Agrees l x (solved rhs start s r y ∷ rest)
