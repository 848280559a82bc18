-- What reading a record answers, and what it leaves of the slices that are lent. Definitions only.
use Rattle.record_format.specs.declared.matrix.MatrixSizes.{MatrixSizes}
use Rattle.solver.specs.declared.solver.LinearSolverOptions.{LinearSolverOptions}
use Rattle.refusal.specs.declared.Refusal.{Refusal}
use Rattle.std.specs.Prelude.{◌≡◌, List, ℕ, Float, Result, Ok, Err}
use Rattle.refusal.specs.Outcome.{Outcome, accepted, refused, verdict_of}
use Rattle.store.specs.Region.{splice}
use Rattle.options.specs.declared.options.MultigridOptions.{MultigridOptions}
use Rattle.record_format.specs.Format.{Matrix, Problem}

-- what a reader leaves of a slice: what it read over its start, and the rest as it was; all of it where it refuses
abbrev pub leaves_of : {A B : Type 0} → (A → List B) → Outcome A → List B → List B
leaves_of part (accepted a) F = splice 0 (part a) F
leaves_of part (refused q) F = F

-- what reading controls answers
abbrev pub controlsAnswer : Outcome MultigridOptions → Result MultigridOptions Refusal
controlsAnswer (accepted c) = Ok c
controlsAnswer (refused q) = Err q

-- what reading a matrix answers: its rows and entries
abbrev pub matrixAnswer : Outcome Matrix → Result MatrixSizes Refusal
matrixAnswer (accepted m) = Ok (record { rows = m.rows; entries = m.entries })
matrixAnswer (refused q) = Err q

-- what reading a solve answers: its tolerances and limit
abbrev pub problemAnswer : Outcome Problem → Result LinearSolverOptions Refusal
problemAnswer (accepted p) = Ok p.limits
problemAnswer (refused q) = Err q

-- A matrix is read: the answer, and what it leaves of the three slices.
pub record MatrixIs (o : Outcome Matrix) (O O' C C' : List ℕ) (F F' : List Float) (r : Result MatrixSizes Refusal) : Type 0 where
  pub answer : r ≡ matrixAnswer o
  pub offsets : O' ≡ leaves_of (λ m. m.offsets) o O
  pub columns : C' ≡ leaves_of (λ m. m.columns) o C
  pub values : F' ≡ leaves_of (λ m. m.values) o F

-- Floats for the entries are read: the answer, and what it leaves of the slice.
pub record ValuesAre (o : Outcome (List Float)) (F F' : List Float) (r : Result Unit Refusal) : Type 0 where
  pub answer : r ≡ verdict_of o
  pub values : F' ≡ leaves_of (λ v. v) o F

-- A solve is read: the answer, and what it leaves of the two slices.
pub record ProblemIs (o : Outcome Problem) (R R' S S' : List Float) (r : Result LinearSolverOptions Refusal) : Type 0 where
  pub answer : r ≡ problemAnswer o
  pub rhs : R' ≡ leaves_of (λ p. p.rhs) o R
  pub start : S' ≡ leaves_of (λ p. p.start) o S
