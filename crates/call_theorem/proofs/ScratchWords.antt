-- Of the words nobody reads past the last level: where words are kept so far, question 19 has the same answer, and the stores hold the same
-- levels. This needs no level to lie in the store: what lies past its end reads as zero in both.
-- Assumes nothing.
use mathlib.Core.Path.{◌≡◌, refl, sym, ap, ◌∙◌}
use mathlib.Core.Bool.{Bool, true, false, ◌||◌}
use mathlib.Core.List.{List}
use mathlib.Core.Logic.{◌⊎◌, inl, inr}
use Prim.Native.Nat.{ℕ, zero, suc, ◌+◌, ◌*◌, ◌≤◌}
use native.Mathlib.Omega.{arith}
use lib.Ieee.{Float}
use Rattle.store.specs.Region.{Kept}
use Rattle.pattern.proofs.pattern.Number.{bool?}
use Rattle.options.specs.declared.options.Handle.{Handle}
use Rattle.layout.specs.Layout.{rows_at, level_at, words_end, floats_end, levels_at, words_to, image_end, finest_rows, view_of, image_of}
use Rattle.layout.proofs.Views.{SameWords, words_told, words_to_lem}
use Rattle.index_check.specs.Sound.{head_sound, head_fits, heads_walked, targets_of, sums_of, levels_walked, walk_of, is_sound, scratch_end, cycle_start, empty_sound, handle_sound, filled_sound, sound_of}
use Rattle.index_check.proofs.sound.Question.{handle_few}
use Rattle.index_check.proofs.sound.Accepts.{walk_accepts}

module _ {w z : List ℕ} {e : ℕ} (kept : Kept e w z) where
  -- ---- the levels

  -- What the words of the first of some levels tell is the same.
  first_told : (more a : ℕ) → words_to (suc more) w a ≤ e → SameWords w z a
  unfolding words_to
  first_told more a h = words_told a kept (omega (arith, words_to_lem more w (words_end w a)))

  -- So is the level,
  level_told : {a : ℕ} → SameWords w z a → (F : List Float) (b : ℕ) → level_at z F a b ≡ level_at w F a b
  unfolding level_at
  level_told s F b =
      let h0 = s.rows in
      let h1 = s.last in
      let h2 = s.coupled in
      let h3 = s.entries in
      let h4 = s.faces in
      let h5 = s.shape in
      cc

  -- and where its floats end.
  floats_told : {a : ℕ} → SameWords w z a → (b : ℕ) → floats_end z a b ≡ floats_end w a b
  unfolding floats_end
  floats_told s b = let h0 = s.rows in let h2 = s.coupled in let h3 = s.entries in let h4 = s.faces in cc

  -- So are some levels,
  levels_told : (k a b : ℕ) (F : List Float) → words_to k w a ≤ e → levels_at k z F a b ≡ levels_at k w F a b
  unfolding levels_at words_to
  levels_told zero a b F h = refl
  levels_told (suc k) a b F h =
      let s = first_told k a h in
      rw (level_told s F b, s.ends, floats_told s b, levels_told k (words_end w a) (floats_end w a b) F h)

  -- and where their floats end.
  image_told : (k a b : ℕ) → words_to k w a ≤ e → image_end k z a b ≡ image_end k w a b
  unfolding image_end words_to
  image_told zero a b h = refl
  image_told (suc k) a b h =
      let s = first_told k a h in
      rw (s.ends, floats_told s b) (image_told k (words_end w a) (floats_end w a b) h)

  -- ---- question 19

  head_told : {a : ℕ} → SameWords w z a → head_sound z a ≡ head_sound w a
  unfolding head_sound
  head_told s =
      let h0 = s.rows in
      let h2 = s.coupled in
      let h3 = s.entries in
      let h4 = s.faces in
      let h5 = s.ends in
      let h6 = kept.size in
      cc

  fits_told : (more : ℕ) {a : ℕ} → SameWords w z a → head_fits more z a ≡ head_fits more w a
  fits_told zero s = let h1 = s.last in let h7 = head_told s in cc
  fits_told (suc more) s = let h1 = s.last in let h7 = head_told s in cc

  -- What links and positions of a level are asked against is the same.
  against_told : (more a : ℕ) → words_to (suc more) w a ≤ e
      → (targets_of more z a ≡ targets_of more w a) × (sums_of more z a ≡ sums_of more w a)
  unfolding words_to
  against_told zero a h = ((first_told zero a h).rows, refl)
  against_told (suc more) a h =
      let s = first_told (suc more) a h in
      let n = first_told more (words_end w a) h in
      let h6 = s.ends in
      let h7 = n.rows in
      let h8 = n.entries in
      (cc, cc)

  heads_told : (k level a : ℕ) → words_to k w a ≤ e → heads_walked k z level a ≡ heads_walked k w level a
  unfolding heads_walked words_to
  heads_told zero level a h = refl
  heads_told (suc k) level a h =
      let s = first_told k a h in
      rw (fits_told k s, s.ends, heads_told k (level + 1) (words_end w a) h)

  rows_told : (k level a : ℕ) → words_to k w a ≤ e → levels_walked k z level a ≡ levels_walked k w level a
  unfolding levels_walked words_to
  rows_told zero level a h = refl
  rows_told (suc k) level a h =
      let s = first_told k a h in
      let t = against_told k a h in
      let h0 = t.0 in
      let h1 = t.1 in
      let h5 = s.shape in
      let h6 = s.ends in
      let h9 = rows_told k (level + 1) (words_end w a) h in
      cc

  walk_told : (k level a : ℕ) → words_to k w a ≤ e → walk_of k z level a ≡ walk_of k w level a
  unfolding walk_of
  walk_told k level a h = rw (heads_told k level a h, rows_told k level a h)

  -- Where the scratch of a solve ends is the same.
  scratch_told : (k a s : ℕ) → words_to k w a ≤ e → scratch_end k z a s ≡ scratch_end k w a s
  unfolding scratch_end words_to
  scratch_told zero a s h = refl
  scratch_told (suc k) a s h =
      let t = first_told k a h in
      rw (t.ends, t.rows) (scratch_told k (words_end w a) (s + 5 * rows_at w a) h)

-- What the words of the finest level tell is the same where there is one.
pub finest_told : (levels : ℕ) {w z : List ℕ} → 1 ≤ levels → Kept (words_to levels w 0) w z → SameWords w z 0
finest_told zero some kept = absurd (omega arith)
finest_told (suc more) some kept = first_told kept more 0 (omega arith)

-- How many rows the finest of them has is the same.
pub count_told_lem : (levels : ℕ) {w z : List ℕ} → Kept (words_to levels w 0) w z → finest_rows levels z ≡ finest_rows levels w
unfolding finest_rows
count_told_lem zero kept = refl
count_told_lem (suc more) kept = (first_told kept more 0 (omega arith)).rows

-- Question 19 reads no word past the last level: of a handle with levels,
filled_told : (h : Handle) {w z : List ℕ} (size records : ℕ) → Kept (words_to h.levels w 0) w z
    → filled_sound h z size records ≡ filled_sound h w size records
unfolding filled_sound
filled_told h {w} {z} size records kept = go (bool? (handle_sound h))
  where
    go : (handle_sound h ≡ true) ⊎ (handle_sound h ≡ false) → filled_sound h z size records ≡ filled_sound h w size records
    go (inl holds) =
        let s = finest_told h.levels (handle_few h holds).0 kept in
        let h0 = s.rows in
        let h1 = s.entries in
        let h2 = sym (walk_accepts h.levels z 0 0) ∙ ap is_sound (walk_told kept h.levels 0 0 (omega arith)) ∙ walk_accepts h.levels w 0 0 in
        let h3 = image_told kept h.levels 0 0 (omega arith) in
        let start = cycle_start h.options.krylov_dimension h.levels w in
        let h4 = scratch_told kept h.levels 0 start (omega arith) in
        let h5 = count_told_lem h.levels kept in
        rw (h2, h1, h0, h3, h5, h4)
    go (inr fails) = rw fails

-- and so of any: where the words before are kept it has the same answer.
pub sound_told : (h : Handle) {w z : List ℕ} (size records : ℕ) → Kept (words_to h.levels w 0) w z
    → sound_of h z size records ≡ sound_of h w size records
unfolding sound_of
sound_told h size records kept = ap (λ (b : Bool). empty_sound h || b) (filled_told h size records kept)

-- The hierarchy in the stores reads none either,
pub view_told : (levels : ℕ) {w z : List ℕ} (F : List Float) → Kept (words_to levels w 0) w z → view_of levels z F 0 ≡ view_of levels w F 0
unfolding view_of
view_told levels F kept =
    let h0 = count_told_lem levels kept in
    let h1 = levels_told kept levels 0 0 F (omega arith) in
    let h2 = image_told kept levels 0 0 (omega arith) in
    cc

-- nor does where the image ends.
pub image_end_told : (levels : ℕ) {w z : List ℕ} → Kept (words_to levels w 0) w z → image_of levels z ≡ image_of levels w
image_end_told levels kept =
    let h0 = count_told_lem levels kept in
    let h2 = image_told kept levels 0 0 (omega arith) in
    cc
