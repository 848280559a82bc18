-- The steps of a solve: what its functions require and ensure. Definitions only.
use Rattle.std.specs.Prelude.{◌≡◌, List, ℕ, Float}
use Rattle.store.specs.Region.{part}
use Rattle.options.specs.declared.options.Handle.{Handle}
use Rattle.solver.specs.declared.solver.LinearSolverOptions.{LinearSolverOptions}
use Rattle.refusal.specs.Refusal.{wrong_length, bad_input}
use Rattle.refusal.specs.Outcome.{Outcome, ask, accepted}
use Rattle.iterations.specs.declared.stepping.Regions.{Regions}
use Rattle.iterations.specs.System.{system_at}
use Rattle.iterations.specs.Steps.{Opened, Ready}
use Rattle.iterations.specs.Iterate.{Solution}
use Rattle.solve.specs.Solve.{uncounted, attempt_of}
use Rattle.solve.specs.Input.{lengths_ok, input_ok}

-- What a solve requires of the stores: what question 19 tells of levels; a handle of no levels has no rows.
pub record SolveOk (h : Handle) (w : List ℕ) (size : ℕ) : Type 0 where
  pub filled : (h.levels ≡ 0 → ⊥) → Opened h w size
  pub empty : h.levels ≡ 0 → h.rows ≡ 0

-- questions 20 and 21, of a system of so many rows; the start passes them with the rest
abbrev pub asked_of : ℕ → LinearSolverOptions → List Float → List Float → Outcome (List Float)
asked_of n s rhs x = ask (lengths_ok n rhs x) wrong_length (ask (input_ok s rhs x) bad_input (accepted x))

-- `solve` from question 22 on, of the vectors in the store
abbrev pub attempt_at : Handle → List ℕ → List Float → Regions → LinearSolverOptions → Outcome Solution
attempt_at h w F g s = attempt_of (system_at h w F) s (part g.rhs g.rows F) (part g.solution g.rows F)

-- What it requires there: the places of a solve, and that nothing is counted yet.
pub record AttemptOk (h : Handle) (w : List ℕ) (size : ℕ) (g : Regions) (t : List ℕ) : Type 0 where
  pub ready : Ready h w size g
  pub zeros : t ≡ uncounted

-- the same of the caller's vectors
abbrev pub begun_at : Handle → List ℕ → List Float → List Float → List Float → LinearSolverOptions → Outcome Solution
begun_at h w F rhs x s = attempt_of (system_at h w F) s rhs x

-- What it requires of the stores, and of vectors of those lengths.
pub record BeginOk (h : Handle) (w : List ℕ) (size rhs x : ℕ) : Type 0 where
  pub opened : Opened h w size
  pub given : rhs ≡ h.rows
  pub start : x ≡ h.rows
