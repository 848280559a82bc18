-- Lists of calls after a build with face weights, that show what the theorem on such lists is about. Definitions only.
use Rattle.std.specs.Prelude.{List, [], ◌∷◌, ℕ, Float, Result, Ok, Err}
use Rattle.refusal.specs.declared.Refusal.{Refusal}
use Rattle.solver.specs.declared.solver.LinearSolverOptions.{LinearSolverOptions}
use Rattle.solver.specs.declared.solver.LinearSolveReport.{LinearSolveReport}
use Rattle.hierarchy.specs.Build.{Input}
use Rattle.call_theorem.specs.Trace.{Event, updated, solved}

-- a solve's report, its solution and what it counted, three numbers to a level
pub record Answer : Type 0 where
  pub report : LinearSolveReport
  pub solution : List Float
  pub counts : List ℕ

-- a build in lent stores of zeros, values that an update refuses and others that it accepts, and a solve with its answer before and after
pub record Example : Type 0 where
  pub input : Input
  -- so many words, floats and records of statistics are lent
  pub words : ℕ
  pub floats : ℕ
  pub statistics : ℕ
  -- the values that are refused, by what, and those that are accepted
  pub wrong : List Float
  pub refusal : Refusal
  pub right : List Float
  -- the solve
  pub rhs : List Float
  pub start : List Float
  pub asked : LinearSolverOptions
  pub before : Answer
  pub after : Answer

module _ (e : Example) where
  -- an update with these values and that answer
  abbrev pub renewed : List Float → Result Unit Refusal → Event
  renewed values r = updated e.input.offsets e.input.columns values r

  -- the solve with that answer
  abbrev pub pressed : Answer → Event
  pressed a = solved e.rhs e.start e.asked (Ok a.report) a.solution

  -- the solve; the update that is refused; the same solve with the same answer; the update that is accepted; and the same solve, which has
  -- another solution
  abbrev pub calls : List Event
  calls = pressed e.before ∷ renewed e.wrong (Err e.refusal) ∷ pressed e.before ∷ renewed e.right (Ok tt) ∷ pressed e.after ∷ []
