-- Levels that the walk went through, one after the other: what the first of them tells, and the levels after it.
-- Assumes nothing.
use mathlib.Core.Path.{◌≡◌, refl}
use mathlib.Core.Bool.{true}
use mathlib.Core.List.{List}
use Prim.Native.Nat.{ℕ, zero, suc, ◌+◌, ◌-◌, ◌≤◌}
use native.Mathlib.Numerals.{sub-one}
use native.Mathlib.Omega.{arith}
use Rattle.layout.specs.Layout.{last_at, words_end, floats_end, image_end}
use Rattle.layout.proofs.Views.{floats_to}
use Rattle.index_check.specs.Sound.{head_sound}
use Rattle.layout.specs.PlaceContract.{PlaceOk}
use Rattle.index_check.proofs.sound.Facts.{Here, targets_of, sums_of, ends_of, Passed, passed}
use Rattle.index_check.proofs.sound.Sizes.{ahead}
use Rattle.update_levels.specs.Steps.{Chain}

-- The first level of a chain, and the levels after it.
pub record Opened (w : List ℕ) (size left level a b : ℕ) : Type 0 where
  pub last : last_at w a ≡ ends_of (left - 1)
  pub here : Here w a (targets_of (left - 1) w a) (sums_of (left - 1) w a)
  pub place : PlaceOk w a b
  pub ends : floats_end w a b ≤ size
  pub rest : Chain w size (left - 1) (level + 1) (words_end w a) (floats_end w a b)
  pub is : image_end left w a b ≡ image_end (left - 1) w (words_end w a) (floats_end w a b)

-- Its first level and the rest, by what the walk tells.
opened_suc : {w : List ℕ} {size more level a b : ℕ} → Chain w size (suc more) level a b → head_sound w a ≡ true → Passed more w level a
    → Opened w size (suc more) level a b
unfolding image_end floats_end
opened_suc {w} {size} {more} {level} {a} {b} c head p =
    let one : suc more - 1 ≡ more = sub-one (suc more) in
    let room : image_end more w (words_end w a) (floats_end w a b) ≤ size = c.room in
    let up = floats_to more w (words_end w a) (floats_end w a b) in
    let ends : floats_end w a b ≤ size = omega arith in
    let few = c.few in
    let fits = c.fits in
    record {
      last = rw one p.last;
      here = rw one p.here;
      place = record { words = p.here.words; floats = omega arith };
      ends = ends;
      rest = rw one (record { walk = p.rest; room = room; few = omega arith; fits = fits });
      is = rw one refl;
    }

-- A chain of at least one level opens.
pub opened : {w : List ℕ} {size left level a b : ℕ} → Chain w size left level a b → 1 ≤ left → Opened w size left level a b
opened {w} {size} {left} {level} {a} {b} c h = go left c h
  where
    go : (n : ℕ) → Chain w size n level a b → 1 ≤ n → Opened w size n level a b
    go zero c h = absurd (omega arith)
    go (suc more) c h = opened_suc c (ahead w more level a c.walk).head (passed more c.walk)
