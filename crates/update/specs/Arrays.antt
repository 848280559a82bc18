-- Questions 31 and 10 of an update: what the functions require and ensure. Definitions only.
use Rattle.refusal.specs.declared.Refusal.{Refusal}
use Rattle.std.specs.Prelude.{◌≡◌, List, ℕ, ◌+◌, ◌≤◌, ◌<◌, length, Float, Result, Ok}
use Rattle.store.specs.Region.{idx, Kept}
use Rattle.refusal.specs.Refusal.{not_symmetric, other_pattern}
use Rattle.refusal.specs.Outcome.{Outcome, passed, ask, verdict_of, ◌>>◌}
use Rattle.coefficients.specs.Mirrors.{mirrors_agree}
use Rattle.hierarchy.specs.Level.{Shape}
use Rattle.layout.specs.declared.Place.{Place}
use Rattle.layout.specs.Layout.{locate}
use Rattle.index_check.specs.Sound.{shape_in}
use Rattle.layout.specs.PlaceContract.{PlaceOk}
use Rattle.update_levels.specs.Level.{FacesReady}
use Rattle.update_levels.specs.Update.{same_pattern, empty_pattern}

-- the questions of a finest level of shape s
abbrev pub asked_of : Shape → List ℕ → List ℕ → List Float → Outcome Unit
asked_of s offsets columns values = do
  ask (same_pattern s offsets columns values) other_pattern
  ask (mirrors_agree (length s.uppers) s.uppers s.lowers values) not_symmetric
  passed

-- the question of no levels
abbrev pub empty_asked : List ℕ → List ℕ → List Float → Outcome Unit
empty_asked offsets columns values = ask (empty_pattern offsets columns values) other_pattern passed

-- The pattern of the level at p lies in the words.
pub record PatternOk (w : List ℕ) (p : Place) : Type 0 where
  pub offsets : p.offsets + (p.rows + 1) ≤ length w
  pub columns : p.columns + p.entries ≤ length w

-- The finest level, whose mirrored entries are entries; there is room for its faces in a shadow that starts at `image`.
pub record AskOk (w : List ℕ) (size image : ℕ) : Type 0 where
  pub place : PlaceOk w 0 image
  pub inside : (locate w 0 0).links ≤ length w
  pub pattern : PatternOk w (locate w 0 0)
  pub uppers : (k : ℕ) → k < (locate w 0 0).faces → idx w ((locate w 0 0).uppers + k) < (locate w 0 0).entries
  pub lowers : (k : ℕ) → k < (locate w 0 0).faces → idx w ((locate w 0 0).lowers + k) < (locate w 0 0).entries
  pub room : (locate w 0 image).coefficients + (locate w 0 image).faces ≤ size

-- The answer, and where both pass, the coefficients of the finest level in the shadow. Below the shadow nothing changed.
pub record Asked (w : List ℕ) (F G : List Float) (offsets columns : List ℕ) (values : List Float) (image : ℕ) (r : Result Unit Refusal) : Type 0 where
  pub answer : r ≡ verdict_of (asked_of (shape_in w 0) offsets columns values)
  pub taken : r ≡ Ok tt → FacesReady w values G (locate w 0 image)
  pub kept : Kept image F G
