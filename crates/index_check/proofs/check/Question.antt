-- Question 19: the handle, the sizes, and what each way out of the check gives.
-- Assumes nothing.
use Rattle.index_check.specs.declared.sound.Stop.{Stop}
use Rattle.std.specs.Prelude.{Result, Ok, Err}
use mathlib.Core.Path.{◌≡◌, refl, sym, ap, ◌∙◌}
use mathlib.Core.Bool.{Bool, true, false, ◌&&◌}
use mathlib.Core.List.{List}
use Prim.Native.Nat.{ℕ, ◌≤◌, ◌<◌}
use native.Mathlib.Omega.{arith}
use lib.Dec.{eqb, leb}
use borrow.Author.Tests.{le-leb, lt-leb}
use Rattle.refusal.specs.declared.Refusal.{Refusal}
use Rattle.refusal.specs.Refusal.{invalid_controls, not_cholesky}
use Rattle.refusal.specs.Outcome.{passed, refused, ask, verdict_of}
use Rattle.refusal.proofs.Outcome.{passes, refuses}
use Rattle.options.specs.declared.options.Handle.{Handle}
use Rattle.options.specs.declared.options.MultigridOptions.{MultigridOptions}
use Rattle.options.specs.Options.{valid_of, is_cholesky, controls_asked}
use Rattle.layout.specs.declared.Place.{Place}
use Rattle.layout.specs.Layout.{rows_at, entries_at, locate}
use Rattle.index_check.specs.Sound.{heads_walked, levels_walked, walk_of, is_sound, levels_sound, controls_sound, empty_sound, handle_sound, cycle_start, scratch_end, filled_sound, sound_of, stopped_at}
use Rattle.index_check.specs.SoundContract.{LevelsOk, MemoryOk, ScratchOk}
use Rattle.index_check.proofs.sound.Sizes.{cycle_bound}
use Rattle.index_check.proofs.sound.Accepts.{walk_accepts}
use Rattle.index_check.proofs.sound.Question.{handle_few}
use Rattle.index_check.specs.CheckContract.{HeadsOk, SizesOk, sizes_asked}

-- ---- the handle

-- Questions 6 and 7 pass where both tests do,
controls_pass : (o : MultigridOptions) → controls_asked o ≡ passed → (valid_of o ≡ true) × (is_cholesky o.coarse_solver ≡ true)
controls_pass o e = both_pass (valid_of o) (is_cholesky o.coarse_solver) e
  where
    both_pass : (a b : Bool) → ask a invalid_controls (ask b not_cholesky passed) ≡ passed → (a ≡ true) × (b ≡ true)
    both_pass true true e = (refl, refl)
    both_pass true false e = let none : ◌≡◌ {A = ℕ} 0 1 = cc in absurd (omega arith)
    both_pass false b e = let none : ◌≡◌ {A = ℕ} 0 1 = cc in absurd (omega arith)

-- and are refused where one does not.
controls_no : (o : MultigridOptions) {q : Refusal} → controls_asked o ≡ refused q → valid_of o && is_cholesky o.coarse_solver ≡ false
controls_no o {q} e = both_no (valid_of o) (is_cholesky o.coarse_solver) e
  where
    both_no : (a b : Bool) → ask a invalid_controls (ask b not_cholesky passed) ≡ refused q → a && b ≡ false
    both_no true true e = let none : ◌≡◌ {A = ℕ} 0 1 = cc in absurd (omega arith)
    both_no true false e = refl
    both_no false b e = refl

module _ (o : MultigridOptions) {v : Result Unit Refusal} (ev : v ≡ verdict_of (controls_asked o)) where
  -- They are refused,
  pub controls_fail : {q : Refusal} → v ≡ Err q → false ≡ (valid_of o && is_cholesky o.coarse_solver)
  controls_fail told = sym (controls_no o (refuses (controls_asked o) ev told))

  -- or pass.
  pub controls_hold : v ≡ Ok tt → true ≡ (valid_of o && is_cholesky o.coarse_solver)
  controls_hold told = let t = controls_pass o (passes (controls_asked o) ev told) in rw (t.0, t.1)

-- Where they do, the numbers of the handle decide: of one of no rows,
pub empty_is : (h : Handle) {t : Bool} → t ≡ controls_sound h → (t && eqb h.levels 0 && eqb h.rows 0 && eqb h.entries 0) ≡ empty_sound h
unfolding empty_sound
empty_is h e = rw e

-- and of one with levels.
pub handle_is : (h : Handle) {t : Bool} → t ≡ controls_sound h
    → (t && leb 1 h.rows && leb 1 h.levels && leb h.levels h.options.max_levels) ≡ handle_sound h
unfolding handle_sound
handle_is h e = rw e

-- ---- the walk

module _ (w : List ℕ) (levels : ℕ) {v : Result Unit Stop} (ev : v ≡ heads_walked levels w 0 0) where
  -- A head stopped it,
  pub walk_stopped : {s : Stop} → v ≡ Err s → v ≡ walk_of levels w 0 0
  unfolding walk_of
  walk_stopped told = let e = sym ev ∙ told in told ∙ rw e

  -- or the rows come next,
  pub walk_rows_ok : v ≡ Ok tt → HeadsOk w levels
  walk_rows_ok told = record { heads = sym ev ∙ told }

  -- and decide.
  pub walk_through : v ≡ Ok tt → {r : Result Unit Stop} → r ≡ levels_walked levels w 0 0 → r ≡ walk_of levels w 0 0
  unfolding walk_of
  walk_through told er = let e = sym ev ∙ told in rw e er

-- ---- the sizes

module _ {h : Handle} {w : List ℕ} (ok : SizesOk h w) where
  -- The levels of such a handle.
  pub levels_ok : LevelsOk w h.levels
  levels_ok = let few = handle_few h ok.handle in record { sound = ok.sound; some = few.0; few = few.1 }

  -- So for the start of the cycles' scratch,
  pub cycle_ok : MemoryOk w h.levels h.options.krylov_dimension
  cycle_ok = record { walked = levels_ok; directions = (handle_few h ok.handle).2 }

  -- and for its end.
  pub scratch_ok : {s : ℕ} → s ≡ cycle_start h.options.krylov_dimension h.levels w → ScratchOk w h.levels s
  scratch_ok e = record { walked = levels_ok; start = rw e (cycle_bound levels_ok h.options.krylov_dimension cycle_ok.directions) }

-- The sizes, as the code reads them.
pub sizes_are : (h : Handle) (w : List ℕ) (size : ℕ) {p : Place} {s e : ℕ} → p ≡ locate w 0 0
    → s ≡ cycle_start h.options.krylov_dimension h.levels w → e ≡ scratch_end h.levels w 0 s
    → eqb p.rows h.rows && eqb p.entries h.entries && leb e size ≡ sizes_asked h w size
sizes_are h w size q es ee = rw (ee, es, q)

-- ---- a handle with levels

-- Tests in a row, and all but the first three of them apart.
regroup : (a b c d e f : Bool) → a ≡ true → b ≡ true → c ≡ true → d && e && f ≡ a && b && c && d && e && f
regroup a b c d e f ea eb ec = rw (ea, eb, ec)

module _ (h : Handle) (w : List ℕ) (size records : ℕ) {t : Bool} (et : t ≡ handle_sound h) where
  -- The handle fails.
  pub check_handle : t ≡ false → false ≡ filled_sound h w size records
  unfolding filled_sound
  check_handle n = let no = sym et ∙ n in rw no

  module _ (y : t ≡ true) where
    -- There are too few records.
    pub check_records : records < h.levels → false ≡ filled_sound h w size records
    unfolding filled_sound
    check_records n = let yes = sym et ∙ y in rw (yes, lt-leb h.levels records n)

    module _ (r : h.levels ≤ records) {v : Result Unit Stop} (ev : v ≡ walk_of h.levels w 0 0) where
      -- The walk stopped.
      pub check_stopped : (s : Stop) → v ≡ Err s → false ≡ filled_sound h w size records
      unfolding filled_sound
      check_stopped s n =
          let yes = sym et ∙ y in
          let no : levels_sound h.levels w 0 ≡ false = sym (walk_accepts h.levels w 0 0) ∙ ap is_sound (sym ev ∙ n) in
          rw (yes, le-leb h.levels records r, no)

      -- It went through, and the sizes are asked.
      pub check_sizes : v ≡ Ok tt → SizesOk h w
      check_sizes g = record { handle = sym et ∙ y; sound = sym ev ∙ g }

      pub check_told : v ≡ Ok tt → {s : Bool} → s ≡ sizes_asked h w size → s ≡ filled_sound h w size records
      unfolding filled_sound
      check_told g e =
          let yes = sym et ∙ y in
          let through : levels_sound h.levels w 0 ≡ true = sym (walk_accepts h.levels w 0 0) ∙ ap is_sound (sym ev ∙ g) in
          e ∙ regroup (handle_sound h) (leb h.levels records) (levels_sound h.levels w 0) (eqb (rows_at w 0) h.rows)
          (eqb (entries_at w 0) h.entries)
          (leb (scratch_end h.levels w 0 (cycle_start h.options.krylov_dimension h.levels w)) size) yes (le-leb h.levels records r) through

-- ---- the question

module _ (h : Handle) (w : List ℕ) (size records : ℕ) {t : Bool} (et : t ≡ empty_sound h) where
  -- There are no rows.
  pub check_empty : t ≡ true → true ≡ sound_of h w size records
  unfolding sound_of
  check_empty y = let yes = sym et ∙ y in rw yes

  -- There are some, or the handle fails.
  pub check_filled : t ≡ false → {r : Bool} → r ≡ filled_sound h w size records → r ≡ sound_of h w size records
  unfolding sound_of
  check_filled n e = let no = sym et ∙ n in rw no e
