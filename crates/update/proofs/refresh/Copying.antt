-- The loop that copies the levels of the shadow over those of the image.
-- Assumes nothing.
use mathlib.Core.Path.{◌≡◌, refl, sym, ap, ◌∙◌, subst}
use mathlib.Core.List.{List, ◌∷◌}
use Prim.Native.Nat.{ℕ, ◌+◌, ◌-◌, ◌*◌, ◌≤◌, ◌<◌}
use native.Mathlib.Nat.{sub-zero}
use native.Mathlib.Omega.{arith}
use lib.ListN.{length}
use lib.Ieee.{Float}
use Rattle.store.specs.Region.{part, Wrote, Kept, CopyOk}
use Rattle.store.proofs.store.Region.{wrote_off, kept_wrote, kept_on, kept_less}
use Rattle.hierarchy.specs.Level.{Level}
use Rattle.layout.specs.declared.Place.{Place}
use Rattle.layout.specs.Layout.{rows_at, locate, level_at, words_end, floats_end, levels_at, image_end}
use Rattle.layout.proofs.Views.{floats_to, finest_rows_lem}
use Rattle.layout.specs.PlaceContract.{PlaceOk}
use Rattle.update_levels.specs.Steps.{RenewOk}
use Rattle.update_levels.proofs.levels.Chains.{opened}
use Rattle.update_levels.proofs.levels.Renewing.{renew_place, inner_words, next_place, next_ready, ends_at, levels_some}
use Rattle.update.proofs.shadow.Moving.{floats_shift, floats_own, Moved, kept_moved, copied_moved, level_moved}
use Rattle.update.specs.Steps.{CommitOk, Committed}

-- The loop stands at `level`, whose words start at a and which stands at p: from its floats on nothing is written yet, and once the levels
-- from there on are those of the shadow, all are.
pub record Copying (levels image end level a : ℕ) (p : Place) (w : List ℕ) (F G : List Float) : Type 0 where
  pub b : ℕ
  pub is : p ≡ locate w a b
  pub ok : RenewOk w (length G) (levels - level) level a b
  pub size : length G ≡ length F
  pub ended : image ≡ image_end levels w 0 0 + rows_at w 0
  pub stop : end ≡ image - rows_at w 0
  pub room : 2 * image ≤ length F
  pub ends : image_end (levels - level) w a b ≡ image_end levels w 0 0
  pub above : (i m : ℕ) → b ≤ i → part i m G ≡ part i m F
  pub whole : (E : List Float) → Kept b G E → levels_at (levels - level) w E a b ≡ levels_at (levels - level) w F a (image + b)
      → levels_at levels w E 0 0 ≡ levels_at levels w F 0 image

-- What the place of the finest level requires.
pub commit_place : {levels : ℕ} {w : List ℕ} {size image : ℕ} → CommitOk levels w size image → PlaceOk w 0 0
commit_place ok = renew_place (record { chain = ok.chain; some = ok.some })

-- The row sums are a part of the image.
pub commit_sums : {levels : ℕ} {w : List ℕ} {size image : ℕ} {p : Place} → CommitOk levels w size image → p ≡ locate w 0 0 → p.rows ≤ image
commit_sums {levels} {w} ok is = let im = ok.is in rw is (omega (arith, finest_rows_lem levels w ok.some))

-- Before the first level all are left.
pub copying_start : {levels image end : ℕ} {w : List ℕ} (F : List Float) {p : Place} → CommitOk levels w (length F) image → p ≡ locate w 0 0
    → end ≡ image - p.rows → Copying levels image end 0 0 p w F F
copying_start {levels} {image} {end} {w} F ok is at = record {
  b = 0;
  is = is;
  ok = rw (sub-zero levels) (record { chain = ok.chain; some = ok.some });
  size = refl;
  ended = let im = ok.is in omega (arith, finest_rows_lem levels w ok.some);
  stop = rw is at at;
  room = ok.room;
  ends = rw (sub-zero levels);
  above = λ i m _. refl;
  whole = λ E _ e. let z : image + 0 ≡ image = omega arith in rw (sub-zero levels, z) at e;
}

module _ {levels image end level a : ℕ} {p : Place} {w : List ℕ} {F G : List Float} (u : Copying levels image end level a p w F G) where
  -- The level is one of them.
  pub copying_few : level + 1 ≤ 128
  copying_few = let f = u.ok.chain.few in let s = u.ok.some in omega arith

  -- What is copied so far has moved, also as seen from the start.
  from_start : {lo hi : ℕ} {E : List Float} → u.b ≤ lo → Moved lo hi image G E → Moved lo hi image F E
  from_start l v = record { same = λ i m o q. v.same i m o q ∙ u.above (image + i) m (omega arith) }

  module _ (h : level + 1 < levels) where
    -- At least two are left.
    two_left : 2 ≤ levels - level
    two_left = omega arith

    -- Where its words end.
    pub copying_words : words_end w a ≤ length w
    copying_words = inner_words u.ok u.is two_left

    -- Its numbers end in the image.
    inside : (u.b ≤ p.coefficients) × (p.coefficients ≤ p.factor) × (p.factor ≤ image)
    inside =
        let here : floats_end w a u.b ≡ (locate w a u.b).factor = ends_at u.ok u.is two_left in
        let opens = (opened u.ok.chain u.ok.some).is in
        let up = floats_to (levels - level - 1) w (words_end w a) (floats_end w a u.b) in
        let ends = u.ends in
        let im = u.ended in
        rw u.is (omega arith, omega arith, omega arith)

    -- So the start of the copy is an index.
    pub copying_fits : (p.coefficients ≤ p.factor) × (image + p.coefficients ≤ 18446744073709551615)
    copying_fits =
        let i = inside in
        let room = u.room in
        let size = u.size in
        let fits = u.ok.chain.fits in
        (omega arith, omega arith)

    -- What the copy requires.
    pub copying_copy : CopyOk (length G) (p.factor - p.coefficients) (image + p.coefficients) p.coefficients
    copying_copy =
        let i = inside in
        let size = u.size in
        let room = u.room in
        record { source = omega arith; target = omega arith; clear = omega arith }

    module _ {next : ℕ} (at : next ≡ words_end w a) where
      -- What the place of the next level requires.
      pub copying_next : PlaceOk w next p.factor
      copying_next = next_place u.ok u.is two_left at

      -- One level fewer is left.
      pub copying_on : {t : Place} → t ≡ locate w next p.factor → {H : List Float}
          → Wrote p.coefficients (p.factor - p.coefficients) (part (image + p.coefficients) (p.factor - p.coefficients) G) G H
          → Copying levels image end (level + 1) next t w F H
      copying_on {t} there {H} c =
          let i = inside in
          let left = levels - level in
          let one : levels - level - 1 ≡ levels - (level + 1) = omega arith in
          let here : floats_end w a u.b ≡ p.factor = ends_at u.ok u.is two_left ∙ ap (λ (q : Place). q.factor) (sym u.is) in
          let own : p.coefficients ≡ (locate w a u.b).coefficients = ap (λ (q : Place). q.coefficients) u.is in
          let shift : floats_end w a (image + u.b) ≡ image + p.factor = floats_shift w a u.b image ∙ ap (λ (n : ℕ). image + n) here in
          let opens = (opened u.ok.chain u.ok.some).is in
          let some = u.ok.some in
          let size = u.size in
          let room = u.room in
          let far : p.coefficients + (p.factor - p.coefficients) ≡ p.factor = omega arith in
          let moved : Moved p.coefficients p.factor image F H =
          from_start i.0 (subst (λ (n : ℕ). Moved p.coefficients n image G H) far (copied_moved c (omega arith) (omega arith))) in
          let level_is : level_at w H a u.b ≡ level_at w F a (image + u.b) = level_moved moved w a u.b (omega arith) (omega arith) in
          record {
            b = p.factor;
            is = there;
            ok = subst (λ (n : ℕ). RenewOk w (length H) n (level + 1) next p.factor) one
                (subst (λ (n : ℕ). RenewOk w n (levels - level - 1) (level + 1) next p.factor) (sym c.size) (next_ready u.ok u.is two_left at));
            size = c.size ∙ size;
            ended = u.ended;
            stop = u.stop;
            room = room;
            ends = rw (← one, at, ← here) (sym opens ∙ u.ends);
            above = λ j m l. wrote_off c j m (omega arith) ∙ u.above j m (omega arith);
            whole = λ E k deep.
                let stays : level_at w E a u.b ≡ level_at w H a u.b =
                level_moved (kept_moved k) w a u.b (omega arith) (omega arith) ∙ ap (level_at w H a) (omega arith) in
                let tails : levels_at (left - 1) w E (words_end w a) (floats_end w a u.b) ≡ levels_at (left - 1) w F (words_end w a) (floats_end w a (image + u.b)) =
                rw (one, shift, here, ← at) deep in
                u.whole E (kept_on (kept_wrote c i.0) (kept_less k (omega arith)))
                (levels_some left w E a u.b some
                ∙ ap (λ (l : Level). l ∷ levels_at (left - 1) w E (words_end w a) (floats_end w a u.b)) (stays ∙ level_is)
                ∙ ap (λ (ls : List Level). level_at w F a (image + u.b) ∷ ls) tails
                ∙ sym (levels_some left w F a (image + u.b) some));
          }

  module _ (h : levels ≤ level + 1) where
    -- One is left.
    none_after : levels - level - 1 ≡ 0
    none_after = omega arith

    -- Its numbers end before the row sums.
    last_inside : (u.b ≤ p.coefficients) × (p.coefficients ≤ floats_end w a u.b) × (floats_end w a u.b ≤ end) × (end ≤ image)
    last_inside =
        let own = floats_own w a u.b in
        let opens = (opened u.ok.chain u.ok.some).is in
        let up = floats_to (levels - level - 1) w (words_end w a) (floats_end w a u.b) in
        let ends = u.ends in
        let im = u.ended in
        let stop = u.stop in
        rw u.is (omega arith, omega arith, omega arith, omega arith)

    -- So the start of the last copy is an index.
    pub last_fits : (p.coefficients ≤ end) × (image + p.coefficients ≤ 18446744073709551615)
    last_fits =
        let i = last_inside in
        let room = u.room in
        let size = u.size in
        let fits = u.ok.chain.fits in
        (omega arith, omega arith)

    -- What the last copy requires.
    pub last_copy : CopyOk (length G) (end - p.coefficients) (image + p.coefficients) p.coefficients
    last_copy =
        let i = last_inside in
        let size = u.size in
        let room = u.room in
        record { source = omega arith; target = omega arith; clear = omega arith }

    -- No levels are alike.
    no_levels : (k : ℕ) (E : List Float) (x y z : ℕ) → k ≡ 0 → levels_at k w E x y ≡ levels_at k w F x z
    unfolding levels_at
    no_levels k E x y z e = rw e

    -- With it all are there.
    pub committed : {H : List Float}
        → Wrote p.coefficients (end - p.coefficients) (part (image + p.coefficients) (end - p.coefficients) G) G H
        → Committed levels w F H image
    committed {H} c =
        let i = last_inside in
        let left = levels - level in
        let some = u.ok.some in
        let size = u.size in
        let room = u.room in
        let own : p.coefficients ≡ (locate w a u.b).coefficients = ap (λ (q : Place). q.coefficients) u.is in
        let far : p.coefficients + (end - p.coefficients) ≡ end = omega arith in
        let moved : Moved p.coefficients end image F H =
        from_start i.0 (subst (λ (n : ℕ). Moved p.coefficients n image G H) far (copied_moved c (omega arith) (omega arith))) in
        let level_is : level_at w H a u.b ≡ level_at w F a (image + u.b) = level_moved moved w a u.b (omega arith) (omega arith) in
        record {
          same = u.whole H (kept_wrote c i.0)
              (levels_some left w H a u.b some
              ∙ ap (λ (l : Level). l ∷ levels_at (left - 1) w H (words_end w a) (floats_end w a u.b)) level_is
              ∙ ap (λ (ls : List Level). level_at w F a (image + u.b) ∷ ls)
              (no_levels (left - 1) H (words_end w a) (floats_end w a u.b) (floats_end w a (image + u.b)) none_after)
              ∙ sym (levels_some left w F a (image + u.b) some));
          size = c.size ∙ size;
        }
