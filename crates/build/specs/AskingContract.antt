-- Questions 1 to 9 of a build and the temporaries: what the functions require and ensure. Definitions only.
use Rattle.refusal.specs.declared.Refusal.{Refusal}
use Rattle.std.specs.Prelude.{◌≡◌, Bool, true, cond, ◌&&◌, ◌||◌, List, ℕ, ◌+◌, ◌*◌, ◌≤◌, eqb, leb, length, Float, Result}
use Rattle.options.specs.declared.options.MultigridOptions.{MultigridOptions}
use Rattle.refusal.specs.Refusal.{store_too_small}
use Rattle.options.specs.Options.{controls_asked}
use Rattle.refusal.specs.Outcome.{Outcome, passed, ask, verdict_of, ◌>>=◌, ◌>>◌}
use Rattle.pattern.specs.Pattern.{Valid, Rising}
use Rattle.csr.specs.Questions.{matrix_asked}
use Rattle.csr.specs.Contract.{Sizes}
use Rattle.csr.specs.Weights.{weights_asked}
use Rattle.hierarchy.specs.Build.{charge, fixed_charge, holds, Lent, Input, pattern_in}
use Rattle.coarsening.specs.declared.coarsen.Workspace.{Workspace}
use Rattle.coarsening.specs.CoarsenContract.{WorkOk}

-- questions 4 to 7, of the weights, if given, of so many entries and of the controls
abbrev pub weighed_asked : ℕ → Bool → List Float → MultigridOptions → Outcome Unit
weighed_asked entries given weights o = do
  _ ← cond given (weights_asked entries weights) passed
  controls_asked o

-- questions 1 to 7, of the arrays and the controls
unfoldable pub arrays_asked : Input → Outcome Unit
arrays_asked x = do
  _ ← matrix_asked x.rows x.offsets x.columns x.values
  weighed_asked (length x.columns) x.given x.weights x.options

-- question 9, of a matrix of so many rows and entries: where there is no row there is no level, and none is charged
unfoldable pub room_asked : MultigridOptions → Lent → ℕ → ℕ → Outcome Unit
room_asked o l rows entries = do
  let fixed = fixed_charge o rows entries
  ask (holds l.stores fixed && leb o.max_levels l.records) store_too_small
  ask (eqb rows 0 || holds l.stores (charge (fixed.words + (5 * rows + 4 * entries + 8)) (fixed.floats + (20 * rows + 4 * entries)))) store_too_small
  passed

-- questions 1 to 9
unfoldable pub asked_of : Lent → Input → Outcome Unit
asked_of l x = do
  _ ← arrays_asked x
  room_asked x.options l x.rows (length x.columns)

-- stores of those sizes, and so many records of statistics
abbrev pub lending : ℕ → ℕ → ℕ → Lent
lending words floats records = record { stores = charge words floats; records = records }

-- the answer of questions 4 to 7
pub record WeightsAsked (entries : ℕ) (given : Bool) (weights : List Float) (o : MultigridOptions) (r : Result Unit Refusal) : Type 0 where
  pub answer : r ≡ verdict_of (weighed_asked entries given weights o)

-- the answer of questions 1 to 7
pub record ArraysAsked (x : Input) (r : Result Unit Refusal) : Type 0 where
  pub answer : r ≡ verdict_of (arrays_asked x)

-- What the controls are where questions 6 passed.
pub record ControlsFit (o : MultigridOptions) : Type 0 where
  pub coarsest : o.coarsest_cells ≤ 256
  pub merges : o.merge_levels ≤ 4
  pub merge : 1 ≤ o.merge_levels
  pub krylov : o.krylov_dimension ≤ 16
  pub some : 1 ≤ o.max_levels
  pub levels : o.max_levels ≤ 128

-- No charge of such a matrix wraps.
pub record ChargeOk (rows entries : ℕ) (o : MultigridOptions) : Type 0 where
  pub few : rows ≤ 65536
  pub less : entries ≤ 1048576
  pub controls : ControlsFit o

-- the answer of question 9
pub record RoomAsked (rows entries : ℕ) (o : MultigridOptions) (l : Lent) (r : Result Unit Refusal) : Type 0 where
  pub answer : r ≡ verdict_of (room_asked o l rows entries)

-- the answer of questions 1 to 9
pub record Asked (l : Lent) (x : Input) (r : Result Unit Refusal) : Type 0 where
  pub answer : r ≡ verdict_of (asked_of l x)

-- What the arrays are where questions 1 to 7 passed.
pub record ArraysFit (x : Input) : Type 0 where
  pub valid : Valid (pattern_in x)
  pub rising : Rising (pattern_in x)
  pub sizes : Sizes x.rows x.columns x.values
  pub weighed : x.given ≡ true → length x.weights ≡ length x.columns
  pub controls : ControlsFit x.options

-- And where 9 passed and there is a row the stores hold the charge with the finest level's.
pub record Fitting (words floats : ℕ) (x : Input) : Type 0 where
  pub arrays : ArraysFit x
  pub heldwords : (fixed_charge x.options x.rows (length x.columns)).words + (5 * x.rows + 4 * length x.columns + 8) ≤ words
  pub heldfloats : (fixed_charge x.options x.rows (length x.columns)).floats + (20 * x.rows + 4 * length x.columns) ≤ floats

-- few enough rows and directions
pub record Small (rows krylov : ℕ) : Type 0 where
  pub few : rows ≤ 65536
  pub directions : krylov ≤ 16

-- so many floats for each row
pub record Vectors (rows krylov r : ℕ) : Type 0 where
  pub is : r ≡ (12 + 2 * krylov) * rows
  pub few : r ≤ 2883584

-- room for the factor
pub record Squared (n r : ℕ) : Type 0 where
  pub is : r ≡ n * n
  pub few : r ≤ 65536

-- What they require: a small matrix, whose fixed charge but for the room of the factor lies in the stores.
pub record SpaceOk (words floats rows entries krylov : ℕ) : Type 0 where
  pub few : rows ≤ 65536
  pub less : entries ≤ 1048576
  pub heldwords : 16 * rows + 12 * entries + 64 ≤ words
  pub heldfloats : (12 + 2 * krylov) * rows + 8 * entries ≤ floats
  pub directions : krylov ≤ 16

-- The temporaries at the ends of the stores.
pub record Spaced (words floats rows entries krylov : ℕ) (t : Workspace) : Type 0 where
  pub work : WorkOk words floats t
  pub ends : t.offsets + (16 * rows + 12 * entries + 64) ≡ words
  pub tops : t.values + ((12 + 2 * krylov) * rows + 8 * entries) ≡ floats
  pub tall : t.rows ≡ rows
  pub most : t.entries ≡ entries
