-- The whole build in lent stores: what it ensures. Definitions only.
use Rattle.std.specs.Prelude.{◌≡◌, true, List, ℕ, length, Float, Result, Ok, Err}
use Rattle.float.specs.Float.{zero64}
use Rattle.store.specs.Vector.{filled}
use Rattle.options.specs.declared.options.Handle.{Handle}
use Rattle.refusal.specs.declared.Refusal.{Refusal}
use Rattle.refusal.specs.Outcome.{Outcome, accepted, refused}
use Rattle.hierarchy.specs.Level.{Hierarchy}
use Rattle.hierarchy.specs.Build.{charge, Lent, Input, build_of}
use Rattle.layout.specs.Layout.{view_of, words_fit}
use Rattle.layout.specs.Headers.{heads_at, heads_of}

-- the handle of a hierarchy
abbrev pub handle_of : Input → Hierarchy → Handle
handle_of x h = record { options = x.options; levels = length h.levels; rows = x.rows; entries = length x.columns }

-- the answer to a build
abbrev pub built_of : Input → Outcome Hierarchy → Result Handle Refusal
built_of x (accepted h) = Ok (handle_of x h)
built_of x (refused q) = Err q

-- stores of those lengths, and so many records of statistics
abbrev pub lent_of : List ℕ → List Float → ℕ → Lent
lent_of w F records = record { stores = charge (length w) (length F); records = records }

-- What a build ensures, whatever the stores held: the definition's answer; accepted, the stores hold its hierarchy, each level
-- with its header; refused, every word of them is zero.
pub record BuildDone (w z : List ℕ) (F G : List Float) (x : Input) (records : ℕ) (r : Result Handle Refusal) : Type 0 where
  pub answer : r ≡ built_of x (build_of (lent_of w F records) x)
  pub view : (h : Hierarchy) → build_of (lent_of w F records) x ≡ accepted h → view_of (length h.levels) z G 0 ≡ h
  pub fits : (h : Hierarchy) → build_of (lent_of w F records) x ≡ accepted h → words_fit (length h.levels) z 0 ≡ true
  pub heads : (h : Hierarchy) → build_of (lent_of w F records) x ≡ accepted h → heads_at (length h.levels) z 0 ≡ heads_of h.levels
  pub words : (q : Refusal) → build_of (lent_of w F records) x ≡ refused q → z ≡ filled (length w) 0
  pub floats : (q : Refusal) → build_of (lent_of w F records) x ≡ refused q → G ≡ filled (length F) zero64
  pub wordsize : length z ≡ length w
  pub floatsize : length G ≡ length F
