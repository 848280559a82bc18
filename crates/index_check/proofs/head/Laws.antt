-- What each way out of the tests of a head gives, said of the definitions alone.
-- Assumes nothing.
use mathlib.Core.Path.{◌≡◌, refl, sym, ◌∙◌}
use mathlib.Core.Bool.{Bool, true, false, not, ◌&&◌}
use mathlib.Core.List.{List}
use mathlib.Core.Logic.{⊎_elim}
use Prim.Native.Nat.{ℕ, zero, suc, ◌+◌, ◌*◌, ◌-◌, ◌≤◌, ◌<◌}
use native.Mathlib.Omega.{arith}
use lib.Dec.{eqb, leb}
use lib.ListN.{length}
use borrow.Author.Tests.{le-leb, lt-leb, eq-eqb, ne_eqb}
use Rattle.store.specs.Region.{idx}
use Rattle.store.proofs.store.Region.{le_or_lt}
use Rattle.layout.specs.Layout.{rows_at, coupled_at, words_end}
use Rattle.layout.proofs.Places.{ends_last, ends_inner, ends_above}
use Rattle.index_check.specs.Sound.{head_sound, head_fits}
use Rattle.index_check.specs.LevelContract.{sizes_fit}

-- Two orders that follow from each other are told alike.
leb_iff : (p q p' q' : ℕ) → (p ≤ q → p' ≤ q') → (p' ≤ q' → p ≤ q) → leb p q ≡ leb p' q'
leb_iff p q p' q' f g =
    ⊎_elim (λ (h : p ≤ q). le-leb p q h ∙ sym (le-leb p' q' (f h)))
    (λ (h : q < p).
    lt-leb p q h ∙ sym (lt-leb p' q' (⊎_elim (λ (k : p' ≤ q'). let z : p ≤ q = g k in omega arith) (λ (k : q' < p'). k) (le_or_lt p' q'))))
    (le_or_lt p q)

-- The first of five tests may be made apart from the others.
apart : (a b c d e : Bool) → a && (b && c && d && e) ≡ a && b && c && d && e
apart true b c d e = refl
apart false b c d e = refl

module _ (w : List ℕ) (a : ℕ) {rows entries faces : ℕ} (r : rows ≡ rows_at w a) (e : entries ≡ idx w (a + 3 + rows))
    (f : faces ≡ idx w (a + 3 + rows + 1 + entries + rows)) where
  -- Where the links would start outside the store, the head is not sound: so it is wherever a size would be read outside.
  pub head_out : length w < a + 5 + 3 * rows + entries + 3 * faces → false ≡ head_sound w a
  unfolding head_sound
  head_out h =
      let links : a + 5 + 3 * rows + entries + 3 * faces ≤ words_end w a = ends_above w a r e f {size = words_end w a} (omega arith) in
      rw (lt-leb (words_end w a) (length w) (omega arith))

  -- The other tests of the head, by the sizes that were read.
  sizes_told : {coupled : ℕ} {s : Bool} → coupled ≡ coupled_at w a → s ≡ sizes_fit rows entries faces coupled
      → leb (words_end w a) (length w) && s ≡ head_sound w a
  unfolding head_sound sizes_fit
  sizes_told {coupled} {s} c h =
      rw (← r, ← e, ← f, ← c, h) (apart (leb (words_end w a) (length w)) (leb rows 65536) (leb entries 1048576) (leb faces entries) (leb coupled rows))

  -- The head of the last level,
  pub head_last : {left coupled : ℕ} {s : Bool} → a ≤ length w → left ≡ length w - a → idx w (a + 1) ≡ 1 → coupled ≡ idx w (a + 2)
      → s ≡ sizes_fit rows entries faces coupled → leb (5 + 3 * rows + entries + 3 * faces + coupled) left && s ≡ head_sound w a
  head_last {left} {coupled} {s} h l t c k =
      let end = ends_last w a r e f t c in
      let same : leb (5 + 3 * rows + entries + 3 * faces + coupled) left ≡ leb (words_end w a) (length w) =
      leb_iff (5 + 3 * rows + entries + 3 * faces + coupled) left (words_end w a) (length w) (λ q. omega arith) (λ q. omega arith) in
      rw same (sizes_told (c ∙ rw (eq-eqb (idx w (a + 1)) 1 t)) k)

  -- and of any other.
  pub head_inner : {left : ℕ} {s : Bool} → a ≤ length w → left ≡ length w - a → (idx w (a + 1) ≡ 1 → ⊥)
      → s ≡ sizes_fit rows entries faces 0 → leb (5 + 3 * rows + entries + 3 * faces + rows + entries) left && s ≡ head_sound w a
  head_inner {left} {s} h l t k =
      let end = ends_inner w a r e f t in
      let same : leb (5 + 3 * rows + entries + 3 * faces + rows + entries) left ≡ leb (words_end w a) (length w) =
      leb_iff (5 + 3 * rows + entries + 3 * faces + rows + entries) left (words_end w a) (length w) (λ q. omega arith) (λ q. omega arith) in
      rw same (sizes_told (rw (ne_eqb (idx w (a + 1)) 1 t)) k)

-- ---- the last level alone is terminal

module _ (w : List ℕ) (a : ℕ) {t : Bool} (e : t ≡ head_sound w a) where
  -- The head is not sound.
  pub fits_no : (more : ℕ) → t ≡ false → false ≡ head_fits more w a
  fits_no zero n = rw (← e, n)
  fits_no (suc more) n = rw (← e, n)

  -- The last level,
  pub fits_last : (more : ℕ) → t ≡ true → more ≡ 0 → eqb (idx w (a + 1)) 1 ≡ head_fits more w a
  fits_last more y z = rw (z, ← e, y)

  -- and any other.
  pub fits_inner : (more : ℕ) → t ≡ true → (more ≡ 0 → ⊥) → not (eqb (idx w (a + 1)) 1) ≡ head_fits more w a
  fits_inner zero y n = absurd (n refl)
  fits_inner (suc more) y n = rw (← e, y)
