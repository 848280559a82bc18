-- New numbers for one level and the values of the next: what the functions require and ensure. Definitions only.
use Rattle.refusal.specs.declared.Refusal.{Refusal}
use Rattle.std.specs.Prelude.{◌≡◌, Bool, false, List, ℕ, ◌+◌, ◌≤◌, ◌<◌, length, Float, Result}
use Rattle.store.specs.Region.{idx, part, Kept}
use Rattle.options.specs.declared.options.MultigridOptions.{MultigridOptions}
use Rattle.refusal.specs.Outcome.{Outcome, accepted, verdict_of, ◌>>=◌}
use Rattle.vector.specs.Finite.{all_finite}
use Rattle.coefficients.specs.Update.{Coefficients}
use Rattle.coefficients.specs.Contract.{update_with, FacesTaken, UpdateOk}
use Rattle.cholesky.specs.Triangle.{tri}
use Rattle.galerkin.specs.Contract.{galerkin_of, SumsOk, FacesOk}
use Rattle.hierarchy.specs.Level.{Shape, Numbers}
use Rattle.hierarchy.specs.Refresh.{needs_dic, numbers_of}
use Rattle.layout.specs.declared.Place.{Place}
use Rattle.layout.specs.Layout.{shape_at, numbers_at}
use Rattle.layout.specs.Parts.{kernel_in, entries_in}
pub use Rattle.layout.specs.TerminalContract.{factor_of, FactorOk, FactorDone}
use Rattle.update_levels.specs.Standing.{diagonals_stand}
use Rattle.update_levels.specs.StandingContract.{RowsOk, bare_at}

-- What holds under all options whose smoother needs DIC data, or none: of the options a renewal reads no more.
abbrev pub Under : Bool → (MultigridOptions → Type 0) → Type 0
Under dic holds = (o : MultigridOptions) → needs_dic o.smoother ≡ dic → holds o

-- What holds under all options: the last level reads none of them.
abbrev pub Always : (MultigridOptions → Type 0) → Type 0
Always holds = (o : MultigridOptions) → holds o

-- ---- one level

-- The level at p, with so many coupled rows if it is the last, else none: its words and floats lie in the stores, its floats in order,
-- and what its words index is there.
pub record LevelOk (w : List ℕ) (size : ℕ) (p : Place) (coupled : ℕ) : Type 0 where
  pub offsets : p.offsets + (p.rows + 1) ≤ length w
  pub columns : p.columns + p.entries ≤ length w
  pub starts : p.starts + p.rows + 1 ≤ length w
  pub diagonals : p.diagonals + p.rows ≤ length w
  pub neighbors : p.neighbors + p.faces ≤ length w
  pub uppers : p.uppers + p.faces ≤ length w
  pub links : p.links + coupled ≤ length w
  pub faces : idx w (p.starts + p.rows) ≡ p.faces
  pub ends : (k : ℕ) → k < p.rows → idx w (p.offsets + k + 1) ≤ p.entries
  pub falls : (k : ℕ) → k < p.rows → idx w (p.starts + k + 1) ≤ p.faces
  pub own : (k : ℕ) → k < p.rows → idx w (p.diagonals + k) < p.entries
  pub near : (k : ℕ) → k < p.faces → idx w (p.neighbors + k) < p.rows
  pub sides : (k : ℕ) → k < p.faces → idx w (p.uppers + k) < p.entries
  pub coupling : (k : ℕ) → k < coupled → idx w (p.links + k) < p.rows
  pub image : p.values + p.entries ≤ p.coefficients
  pub sided : p.coefficients + p.faces ≤ p.diagonal
  pub diagonal : p.diagonal + p.rows ≤ p.inverse
  pub inverse : p.inverse + p.rows ≤ p.dic
  pub dic : p.dic + p.rows ≤ p.factor
  pub room : p.factor + tri coupled ≤ size

-- The same of a level that is the last or not: only the last has coupled rows.
pub record LevelReady (w : List ℕ) (size : ℕ) (p : Place) (last : Bool) (coupled : ℕ) : Type 0 where
  pub level : LevelOk w size p coupled
  pub none : last ≡ false → coupled ≡ 0

-- What 11, 12 and 13 require.
pub record CoefficientsOk (w : List ℕ) (size : ℕ) (p : Place) : Type 0 where
  pub rows : RowsOk w p
  pub update : UpdateOk w size (kernel_in p) (entries_in p)

-- the faces' values among those that are given stand where the coefficients of the level at p are
abbrev pub FacesReady : List ℕ → List Float → List Float → Place → Type 0
FacesReady w given F p = FacesTaken w given F (kernel_in p) (entries_in p)

-- these questions, and the coefficients
abbrev pub coefficients_asked : ℕ → List ℕ → List Float → Place → Outcome Coefficients
coefficients_asked level w values p = do
  _ ← diagonals_stand level (bare_at w p)
  update_with level (kernel_in p) (entries_in p) w values

-- the numbers of a level of shape s: 11, 12 and 13, then 15, or 16 and 17
abbrev pub level_of : MultigridOptions → ℕ → Shape → List Float → Outcome Numbers
level_of o level s values = do
  _ ← diagonals_stand level s
  numbers_of o level s values

-- the same of the level at p from those values
abbrev pub level_renewed : MultigridOptions → Bool → ℕ → ℕ → List ℕ → List Float → Place → Outcome Numbers
level_renewed o last coupled level w values p = level_of o level (shape_at w p last coupled) values

-- Its answer, and where it accepts, its numbers. Up to the coefficients nothing changed.
pub record LevelDone (w : List ℕ) (values F G : List Float) (o : MultigridOptions) (p : Place) (last : Bool) (coupled level : ℕ) (r : Result Unit Refusal) : Type 0 where
  pub answer : r ≡ verdict_of (level_renewed o last coupled level w values p)
  pub numbers : (n : Numbers) → level_renewed o last coupled level w values p ≡ accepted n → numbers_at G p coupled ≡ n
  pub kept : Kept p.coefficients F G

-- ---- the next level's values

-- What the values of the level at t require, summed from those of the level at p.
pub record CoarseOk (w : List ℕ) (size : ℕ) (p t : Place) : Type 0 where
  pub sums : SumsOk w size p.entries p.positions p.values t.entries t.values
  pub faces : FacesOk w size t.faces t.uppers t.lowers t.entries t.values

-- these values
abbrev pub coarse_at : List ℕ → List Float → Place → Place → List Float
coarse_at w values p t =
    galerkin_of t.entries p.entries (part p.positions p.entries w) values
    t.faces (part t.uppers t.faces w) (part t.lowers t.faces w)

-- The values, and whether they are finite. Below them nothing changed.
pub record CoarseDone (w : List ℕ) (old F G : List Float) (p t : Place) (r : Bool) : Type 0 where
  pub values : part t.values t.entries G ≡ coarse_at w old p t
  pub finite : r ≡ all_finite t.entries (coarse_at w old p t)
  pub kept : Kept t.values F G
