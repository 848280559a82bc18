-- What a handle that passes question 19 tells.
-- Assumes nothing.
use mathlib.Core.Path.{◌≡◌, refl}
use mathlib.Core.Bool.{Bool, true, false, ◌&&◌, ◌||◌}
use mathlib.Core.List.{List}
use Prim.Native.Nat.{ℕ, ◌≤◌}
use native.Mathlib.Omega.{arith}
use lib.Dec.{eqb, leb}
use borrow.Author.Tests.{leb-true, eqb-true}
use Rattle.store.proofs.store.Each.{both_l, both_r}
use Rattle.options.specs.declared.options.Handle.{Handle}
use Rattle.options.specs.declared.options.MultigridOptions.{MultigridOptions}
use Rattle.options.specs.Options.{within, tolerable, cap_allowed, valid_of, is_cholesky}
use Rattle.layout.specs.Layout.{rows_at, entries_at}
use Rattle.index_check.specs.Sound.{levels_sound, scratch_end, cycle_start, empty_sound, handle_sound, filled_sound, sound_of}
use Rattle.index_check.proofs.sound.Laws.{all_five}

-- The sixth and the eighth of twelve tests.
two_of : (a b c d e f g h i j k l : Bool) → a && b && c && d && e && f && g && h && i && j && k && l ≡ true → (f ≡ true) × (h ≡ true)
two_of a b c d e f g h i j k l t =
    let t11 = both_l (a && b && c && d && e && f && g && h && i && j && k) l t in
    let t10 = both_l (a && b && c && d && e && f && g && h && i && j) k t11 in
    let t9 = both_l (a && b && c && d && e && f && g && h && i) j t10 in
    let t8 = both_l (a && b && c && d && e && f && g && h) i t9 in
    let t7 = both_l (a && b && c && d && e && f && g) h t8 in
    let t6 = both_l (a && b && c && d && e && f) g t7 in
    (both_r (a && b && c && d && e) f t6, both_r (a && b && c && d && e && f && g) h t8)

-- Valid controls allow at most 128 levels and 16 directions.
valid_few : (o : MultigridOptions) → valid_of o ≡ true → (o.max_levels ≤ 128) × (o.krylov_dimension ≤ 16)
unfolding valid_of
valid_few o e =
    let t = two_of (within 1 o.max_sweeps 64) (leb o.pre_sweeps o.max_sweeps) (leb o.post_sweeps o.max_sweeps)
    (within 1 o.finest_sweeps 64) (within 1 o.coarsest_cells 256) (within 1 o.max_levels 128) (within 1 o.merge_levels 4)
    (leb o.krylov_dimension 16) (tolerable o.coarse_absolute_tolerance) (tolerable o.coarse_relative_tolerance)
    (leb 1 o.coarse_max_iterations) (cap_allowed o.max_aggregate_cells) e in (
      leb-true o.max_levels 128 (both_r (leb 1 o.max_levels) (leb o.max_levels 128) t.0),
      leb-true o.krylov_dimension 16 t.1,
    )

-- A handle that passes has a level, at most 128, and at most 16 directions.
pub handle_few : (h : Handle) → handle_sound h ≡ true → (1 ≤ h.levels) × (h.levels ≤ 128) × (h.options.krylov_dimension ≤ 16)
unfolding handle_sound
handle_few h e =
    let t = all_five (valid_of h.options) (is_cholesky h.options.coarse_solver) (leb 1 h.rows) (leb 1 h.levels)
    (leb h.levels h.options.max_levels) e in
    let few = valid_few h.options t.0 in
    let most = leb-true h.levels h.options.max_levels t.4 in
    (leb-true 1 h.levels t.3, omega arith, few.1)

-- ---- the question by the number of levels

-- Of two tests the other one holds.
either : (a b : Bool) → a || b ≡ true → (a ≡ true → ⊥) → b ≡ true
either true b e not = absurd (not refl)
either false b e not = e

-- It is enough that the second does.
or_second : (a b : Bool) → b ≡ true → a || b ≡ true
or_second true b e = refl
or_second false b e = e

-- The first of six tests.
first_of : (a b c d e f : Bool) → a && b && c && d && e && f ≡ true → a ≡ true
first_of true b c d e f t = refl
first_of false b c d e f t = t

-- All five tests of a handle of no rows.
empty_all : (h : Handle) → empty_sound h ≡ true
    → (valid_of h.options ≡ true) × (is_cholesky h.options.coarse_solver ≡ true) × (eqb h.levels 0 ≡ true) × (eqb h.rows 0 ≡ true) × (eqb h.entries 0 ≡ true)
unfolding empty_sound
empty_all h e = all_five (valid_of h.options) (is_cholesky h.options.coarse_solver) (eqb h.levels 0) (eqb h.rows 0) (eqb h.entries 0) e

module _ (h : Handle) (w : List ℕ) (size records : ℕ) where
  -- The handle itself has levels then.
  filled_handle : filled_sound h w size records ≡ true → 1 ≤ h.levels
  unfolding filled_sound
  filled_handle e = (handle_few h (first_of (handle_sound h) (leb h.levels records) (levels_sound h.levels w 0) (eqb (rows_at w 0) h.rows)
      (eqb (entries_at w 0) h.entries)
      (leb (scratch_end h.levels w 0 (cycle_start h.options.krylov_dimension h.levels w)) size) e)).0

  -- Where there is a level, the walk and the sizes are asked.
  pub sound_filled : 1 ≤ h.levels → sound_of h w size records ≡ true → filled_sound h w size records ≡ true
  unfolding sound_of
  sound_filled some e = either (empty_sound h) (filled_sound h w size records) e
      (λ empty. let none = eqb-true h.levels 0 (empty_all h empty).2 in omega arith)

  -- Where there is none, there is no row and no entry.
  pub sound_empty : h.levels ≡ 0 → sound_of h w size records ≡ true → (h.rows ≡ 0) × (h.entries ≡ 0)
  unfolding sound_of
  sound_empty none e = go (empty_sound h) refl
    where
      go : (a : Bool) → empty_sound h ≡ a → (h.rows ≡ 0) × (h.entries ≡ 0)
      go true holds = let t = empty_all h holds in (eqb-true h.rows 0 t.3, eqb-true h.entries 0 t.4)
      go false fails = absurd (let some = filled_handle (rw fails at e) in omega arith)

  -- A handle of no rows passes,
  pub empty_sound_lem : empty_sound h ≡ true → sound_of h w size records ≡ true
  unfolding sound_of
  empty_sound_lem e = rw e

  -- and so does one that has passed the walk and the sizes.
  pub filled_sound_lem : filled_sound h w size records ≡ true → sound_of h w size records ≡ true
  unfolding sound_of
  filled_sound_lem e = or_second (empty_sound h) (filled_sound h w size records) e
