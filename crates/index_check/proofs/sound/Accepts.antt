-- What the walk accepts, told without places: of each level its head, its tables and where its rows stand. The tests of the single rows
-- find the place and refuse nothing more.
-- Assumes nothing.
use Rattle.index_check.specs.declared.sound.Stop.{Stop}
use Rattle.std.specs.Prelude.{Result, Ok, Err}
use mathlib.Core.Path.{◌≡◌, refl, sym, ap, ◌∙◌}
use mathlib.Core.Bool.{Bool, true, false, ◌&&◌}
use mathlib.Core.List.{List}
use Prim.Native.Nat.{ℕ, zero, suc, ◌+◌, ◌<◌}
use native.Mathlib.Omega.{arith}
use Rattle.store.proofs.store.Each.{both_l, both_r, each_at}
use Rattle.layout.specs.Layout.{rows_at, words_end}
use Rattle.index_check.specs.Sound.{shape_in, arrays_sound, row_placed, go_on, head_fits, rows_walked, targets_of, sums_of, walk_of, is_sound, level_sound, levels_sound, stopped_at}
use Rattle.index_check.specs.LevelContract.{rows_placed}
use Rattle.index_check.proofs.sound.Walks.{each_all, row_placed_lem, go_on_lem, and_then_lem, row_at, fits_head, level_walked_lem, Opened, opened, walk_closed, walk_none}

-- Two tests that follow from each other are one.
same_test : (a b : Bool) → (a ≡ true → b ≡ true) → (b ≡ true → a ≡ true) → a ≡ b
same_test true b f g = sym (f refl)
same_test false true f g = g refl
same_test false false f g = refl

-- A walk that went through is sound.
is_through : (v : Result Unit Stop) → is_sound v ≡ true → v ≡ Ok tt
is_through (Ok tt) e = refl
is_through (Err s) e = let none : ◌≡◌ {A = ℕ} 0 1 = cc in absurd (omega arith)

-- The tables of a level that was walked, and where its rows stand.
level_told : (more : ℕ) (w : List ℕ) (level a : ℕ) → Opened more w level a → level_sound (targets_of more w a) (sums_of more w a) (shape_in w a) ≡ true
level_told more w level a o =
    let s = shape_in w a in
    let targets = targets_of more w a in
    let sums = sums_of more w a in
    let t = and_then_lem (rows_walked targets sums s level (rows_at w a) 0) (go_on (arrays_sound targets sums s) (stopped_at level 0) (Ok tt)) o.here in
    let arrays = (go_on_lem (arrays_sound targets sums s) level 0 (Ok tt) t.1).0 in
    let at : (k : ℕ) → k < rows_at w a → row_placed s k ≡ true =
    λ k h. let z : 0 + k ≡ k = omega arith in row_placed_lem targets sums s k (rw z at (row_at targets sums s level (rows_at w a) 0 t.0 k h)) in
    let placed : rows_placed s ≡ true = each_all (row_placed s) (rows_at w a) at in
    rw (arrays, placed)

-- one level and those after it, by the walk's own tests
abbrev step_of : ℕ → List ℕ → ℕ → Bool → Bool
step_of more w a rest = head_fits more w a && level_sound (targets_of more w a) (sums_of more w a) (shape_in w a) && rest

-- No level passes,
levels_none : (w : List ℕ) (a : ℕ) → true ≡ levels_sound 0 w a
unfolding levels_sound
levels_none w a = refl

-- and one with those after it.
levels_open : (more : ℕ) (w : List ℕ) (a : ℕ) → levels_sound (suc more) w a ≡ step_of more w a (levels_sound more w (words_end w a))
unfolding levels_sound
levels_open zero w a = sym (and_true (head_fits 0 w a && level_sound (rows_at w a) 0 (shape_in w a)))
  where
    and_true : (b : Bool) → b && true ≡ b
    and_true true = refl
    and_true false = refl
levels_open (suc more) w a = refl

-- The walk accepts exactly those levels.
pub walk_accepts : (levels : ℕ) (w : List ℕ) (level a : ℕ) → is_sound (walk_of levels w level a) ≡ levels_sound levels w a
walk_accepts zero w level a = ap is_sound (walk_none w level a) ∙ levels_none w a
walk_accepts (suc more) w level a =
    let s = shape_in w a in
    let targets = targets_of more w a in
    let sums = sums_of more w a in
    let head = head_fits more w a in
    let here = level_sound targets sums s in
    let rest = levels_sound more w (words_end w a) in
    same_test (is_sound (walk_of (suc more) w level a)) (head && here && rest)
    (λ e.
    let o = opened more w level a (is_through (walk_of (suc more) w level a) e) in
    let on = sym (walk_accepts more w (level + 1) (words_end w a)) ∙ ap is_sound o.rest in
    rw (o.head, level_told more w level a o, on))
    (λ e.
    let first = both_l (head && here) rest e in
    let yes = both_r head here first in
    let fits = both_l head here first in
    let arrays = both_l (arrays_sound targets sums s) (rows_placed s) yes in
    let placed = both_r (arrays_sound targets sums s) (rows_placed s) yes in
    let through = is_through (walk_of more w (level + 1) (words_end w a)) (walk_accepts more w (level + 1) (words_end w a) ∙ both_r (head && here) rest e) in
    ap is_sound (walk_closed more w level a (record {
      head = fits;
      here = level_walked_lem w a targets sums level (fits_head w a more fits) arrays (λ k h. each_at (row_placed s) (rows_at w a) placed k h);
      rest = through;
    }))) ∙ sym (levels_open more w a)

-- Where the levels pass it goes through.
pub walk_passes : (levels : ℕ) (w : List ℕ) (level a : ℕ) → levels_sound levels w a ≡ true → walk_of levels w level a ≡ Ok tt
walk_passes levels w level a e = is_through (walk_of levels w level a) (walk_accepts levels w level a ∙ e)
