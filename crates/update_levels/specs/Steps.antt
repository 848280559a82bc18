-- The steps of a renewal: what its functions require and ensure. Definitions only.
use Rattle.refusal.specs.declared.Refusal.{Refusal}
use Rattle.std.specs.Prelude.{◌≡◌, false, List, [], ◌∷◌, ℕ, zero, suc, ◌+◌, ◌-◌, ◌≤◌, Float, Result, Ok}
use Rattle.store.specs.Region.{part, Kept}
use Rattle.options.specs.declared.options.MultigridOptions.{MultigridOptions}
use Rattle.refusal.specs.Refusal.{bad_coarse_value}
use Rattle.refusal.specs.Outcome.{Outcome, accepted, ask, verdict_of, ◌>>=◌, ◌>>◌}
use Rattle.vector.specs.Finite.{all_finite}
use Rattle.hierarchy.specs.Level.{Shape, Numbers, Level}
use Rattle.layout.specs.declared.Place.{Place}
use Rattle.layout.specs.Layout.{entries_at, numbers_at, words_end, levels_at, image_end, locate}
use Rattle.index_check.specs.Sound.{shape_in, walk_of}
use Rattle.update_levels.specs.Level.{LevelOk, level_renewed, CoarseOk, coarse_at}
use Rattle.update_levels.specs.Update.{renew_of}

-- So many levels from the one at a and b on, which is `level`: the walk went through them, and their floats end within `size`.
pub record Chain (w : List ℕ) (size left level a b : ℕ) : Type 0 where
  pub walk : walk_of left w level a ≡ Ok tt
  pub room : image_end left w a b ≤ size
  pub few : level + left ≤ 128
  pub fits : size ≤ 18446744073709551615

-- ---- a turn of the loop

-- What a turn requires: a level at p that is not the last, and the next one at t, whose floats follow.
pub record TurnOk (w : List ℕ) (size : ℕ) (p t : Place) : Type 0 where
  pub level : LevelOk w size p 0
  pub coarse : CoarseOk w size p t
  pub after : p.factor ≤ t.values

-- the numbers of the level at p, and question 18 of the values of the next
abbrev pub turn_of : MultigridOptions → ℕ → List ℕ → List Float → Place → Place → Outcome Numbers
turn_of o level w values p t = do
  n ← level_renewed o false 0 level w values p
  ask (all_finite t.entries (coarse_at w values p t)) bad_coarse_value
  accepted n

-- Its answer, and where it accepts, the numbers of the level and the values of the next. Up to the coefficients nothing changed.
pub record Turned (w : List ℕ) (old F G : List Float) (o : MultigridOptions) (p t : Place) (level : ℕ) (r : Result Unit Refusal) : Type 0 where
  pub answer : r ≡ verdict_of (turn_of o level w old p t)
  pub numbers : (n : Numbers) → turn_of o level w old p t ≡ accepted n → numbers_at G p 0 ≡ n
  pub values : r ≡ Ok tt → part t.values t.entries G ≡ coarse_at w old p t
  pub kept : Kept p.coefficients F G

-- ---- the levels

-- the shapes of so many levels from a on, which the words tell
unfoldable pub shapes_at : ℕ → List ℕ → ℕ → List Shape
shapes_at zero w a = []
shapes_at (suc k) w a = shape_in w a ∷ shapes_at k w (words_end w a)

-- the levels from a on, from the values of the first
abbrev pub renew_at : MultigridOptions → ℕ → ℕ → List ℕ → List Float → ℕ → Outcome (List Level)
renew_at o left level w values a = renew_of o level (shapes_at left w a) values

-- What they require: there is one.
pub record RenewOk (w : List ℕ) (size left level a b : ℕ) : Type 0 where
  pub chain : Chain w size left level a b
  pub some : 1 ≤ left

-- The answer, and where it accepts, the levels. Below their floats nothing changed.
pub record Renewed (o : MultigridOptions) (left level : ℕ) (w : List ℕ) (values F G : List Float) (a b : ℕ) (r : Result Unit Refusal) : Type 0 where
  pub answer : r ≡ verdict_of (renew_at o left level w values a)
  pub levels : (ls : List Level) → renew_at o left level w values a ≡ accepted ls → levels_at left w G a b ≡ ls
  pub kept : Kept b F G

-- The levels from `level` on, the first of which stands at p.
pub record RestOk (w : List ℕ) (size levels level a : ℕ) (p : Place) : Type 0 where
  pub is : p ≡ locate w a p.values
  pub ok : RenewOk w size (levels - level) level a p.values

-- All levels, and as many values as the first has entries.
pub record StartOk (w : List ℕ) (size count levels image : ℕ) : Type 0 where
  pub ok : RenewOk w size levels 0 0 image
  pub many : count ≡ entries_at w 0
