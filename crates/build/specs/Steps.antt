-- The steps of the whole build: what the functions require and ensure. Definitions only.
use Rattle.options.specs.declared.options.Handle.{Handle}
use Rattle.std.specs.Prelude.{◌≡◌, Bool, true, cond, List, ℕ, ◌-◌, eqb, length, Float, Result, Ok, Err}
use Rattle.float.specs.Float.{zero64}
use Rattle.store.specs.Vector.{filled}
use Rattle.options.specs.declared.options.MultigridOptions.{MultigridOptions}
use Rattle.refusal.specs.declared.Refusal.{Refusal}
use Rattle.refusal.specs.Refusal.{not_symmetric}
use Rattle.refusal.specs.Outcome.{Outcome, accepted, refused, ask, ◌>>=◌, ◌>>◌}
use Rattle.hierarchy.specs.Level.{Level, Hierarchy, empty_hierarchy}
use Rattle.hierarchy.specs.Refresh.{with_sums}
use Rattle.hierarchy.specs.Build.{charge, Charge, fixed_charge, and_level, Input, pattern_in, mesh_in, symmetric_of, grow_of, build_of}
use Rattle.layout.specs.Layout.{view_of, words_fit}
use Rattle.layout.specs.Headers.{heads_at, heads_of}
use Rattle.coarsening.specs.declared.coarsen.Workspace.{Workspace}
use Rattle.build_level.specs.LayingContract.{FrontierOk}
use Rattle.build_levels.specs.GrowingContract.{grow_at}
use Rattle.build.specs.Built.{built_of, lent_of}
use Rattle.build.specs.AskingContract.{ControlsFit}
use Rattle.build.specs.Finest.{finest_of}
pub use Rattle.build.specs.Asking.{input_of}

-- question 10, the levels and the row sums
unfoldable pub rest_of : Charge → Input → Outcome Hierarchy
rest_of stores x = do
  let fixed = fixed_charge x.options x.rows (length x.columns)
  ask (symmetric_of (pattern_in x) x.values) not_symmetric
  levels ← grow_of x.options x.given stores (x.options.max_levels - 1) 0 0 (and_level (pattern_in x) fixed) (mesh_in x)
  accepted (with_sums x.options levels)

-- what follows question 9: where there is no row there is no level
abbrev pub after_room : Charge → Input → Outcome Hierarchy
after_room stores x = cond (eqb x.rows 0) (accepted empty_hierarchy) (rest_of stores x)

-- the answer to a build of no levels
abbrev pub empty_made : MultigridOptions → ℕ → ℕ → Result Handle Refusal
empty_made o rows entries = Ok (record { options = o; levels = 0; rows = rows; entries = entries })

-- What the levels of a loaded matrix require.
pub record LevelsOk (w : List ℕ) (size : ℕ) (o : MultigridOptions) (t : Workspace) : Type 0 where
  pub controls : ControlsFit o
  pub frontier : FrontierOk w size o t (finest_of o t)

-- the handle of so many levels
abbrev pub levels_made : MultigridOptions → Workspace → List Level → Result Handle Refusal
levels_made o t ls = Ok (record { options = o; levels = length ls; rows = t.rows; entries = t.entries })

-- What they ensure: the definition's levels with the row sums, or its refusal.
pub record LevelsDone (w z : List ℕ) (F G : List Float) (o : MultigridOptions) (given : Bool) (t : Workspace) (r : Result Handle Refusal) : Type 0 where
  pub made : (ls : List Level) → grow_at o given w F t (finest_of o t) ≡ accepted ls → r ≡ levels_made o t ls
  pub refusal : (q : Refusal) → grow_at o given w F t (finest_of o t) ≡ refused q → r ≡ Err q
  pub view : (ls : List Level) → grow_at o given w F t (finest_of o t) ≡ accepted ls → view_of (length ls) z G 0 ≡ with_sums o ls
  pub fits : (ls : List Level) → grow_at o given w F t (finest_of o t) ≡ accepted ls → words_fit (length ls) z 0 ≡ true
  pub heads : (ls : List Level) → grow_at o given w F t (finest_of o t) ≡ accepted ls → heads_at (length ls) z 0 ≡ heads_of ls
  pub wordsize : length z ≡ length w
  pub floatsize : length G ≡ length F

-- What an attempt whose outcome is `out` ensures: its answer, and its hierarchy where it accepts; of a refusal's stores nothing.
pub record Tried (w z : List ℕ) (F G : List Float) (out : Outcome Hierarchy) (x : Input) (r : Result Handle Refusal) : Type 0 where
  pub answer : r ≡ built_of x out
  pub view : (h : Hierarchy) → out ≡ accepted h → view_of (length h.levels) z G 0 ≡ h
  pub fits : (h : Hierarchy) → out ≡ accepted h → words_fit (length h.levels) z 0 ≡ true
  pub heads : (h : Hierarchy) → out ≡ accepted h → heads_at (length h.levels) z 0 ≡ heads_of h.levels
  pub wordsize : length z ≡ length w
  pub floatsize : length G ≡ length F

-- of the part from question 10 on
abbrev pub Begun : List ℕ → List ℕ → List Float → List Float → Input → Result Handle Refusal → Type 0
Begun w z F G x r = Tried w z F G (rest_of (charge (length w) (length F)) x) x r

-- of the whole build
abbrev pub Attempted : List ℕ → List ℕ → List Float → List Float → Input → ℕ → Result Handle Refusal → Type 0
Attempted w z F G x records r = Tried w z F G (build_of (lent_of w F records) x) x r

-- Both stores hold zeros.
pub record Cleared (w z : List ℕ) (F G : List Float) : Type 0 where
  pub words : z ≡ filled (length w) 0
  pub floats : G ≡ filled (length F) zero64
