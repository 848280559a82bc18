-- Floats that agree outside scratch hold the same hierarchy, and those that hold the same hierarchy agree outside scratch: of the image
-- nothing but the levels' values lies outside the hierarchy.
-- Assumes nothing.
use mathlib.Core.Path.{◌≡◌, refl, sym, ap, ◌∙◌}
use mathlib.Core.Bool.{Bool, true, false, ◌&&◌, ◌||◌}
use mathlib.Core.List.{List}
use mathlib.Core.Logic.{◌⊎◌, inl, inr}
use Prim.Native.Nat.{ℕ, zero, suc, ◌+◌, ◌-◌, ◌≤◌, ◌<◌, min}
use native.Mathlib.Omega.{arith}
use lib.Dec.{leb, ltb}
use lib.ListN.{length, drop, length-take, length-drop}
use lib.Seq.{ext_get_or}
use lib.Ieee.{Float, nan}
use borrow.Author.Tests.{leb-false, le-leb, lt-leb, lt-ltb, le-ltb}
use Rattle.store.specs.Region.{at, part}
use Rattle.store.proofs.store.Region.{le_or_lt, get_d_part}
use Rattle.pattern.proofs.pattern.Number.{not_both}
use Rattle.hierarchy.specs.Level.{Numbers, Level, Hierarchy}
use Rattle.layout.specs.declared.Place.{Place}
use Rattle.layout.specs.Layout.{coupled_at, entries_at, locate, numbers_at, level_at, words_end, floats_end, levels_at, image_end, finest_rows, view_of, image_of}
use Rattle.layout.proofs.Views.{floats_to}
use Rattle.update.proofs.shadow.Moving.{Moved, level_moved}
use Rattle.call_theorem.specs.Scratch.{own_value, value_at, scratch_float}

-- ---- tests

-- Two tests that both fail.
neither : (a b : Bool) → a ≡ false → b ≡ false → a || b ≡ false
neither a b e f = rw (e, f)

-- Where one of two was to hold and none does, the first does not,
neither_l : (a b : Bool) → a || b ≡ false → a ≡ false
neither_l true b e = e
neither_l false b e = refl

-- and the second does not.
pub neither_r : (a b : Bool) → a || b ≡ false → b ≡ false
neither_r true true e = e
neither_r true false e = refl
neither_r false b e = e

-- Of two tests the second fails.
both_not : (a b : Bool) → b ≡ false → a && b ≡ false
both_not true b e = e
both_not false b e = refl

-- Both hold.
both : {a b : Bool} → a ≡ true → b ≡ true → a && b ≡ true
both e f = rw (e, f)

-- ---- parts

-- How long a region is that may not lie in the store.
part_long : (c m : ℕ) (F : List Float) → length (part c m F) ≡ min m (length F - c)
unfolding part
part_long c m F = length-take m (drop c F) ∙ ap (min m) (length-drop c F)

-- Regions whose elements are the same are the same,
part_same : (F G : List Float) (c m : ℕ) → length G ≡ length F → ((i : ℕ) → c ≤ i → i < c + m → at G i ≡ at F i) → part c m G ≡ part c m F
part_same F G c m size same =
    let g = part_long c m G in
    let f = part_long c m F in
    ext_get_or nan (part c m G) (part c m F) (omega arith) (λ i h.
    let few : i < m = omega arith in
    get_d_part c m G i nan few ∙ same (c + i) (omega arith) (omega arith) ∙ sym (get_d_part c m F i nan few))

-- and elements of regions that are the same are the same.
part_at : (F G : List Float) (c m : ℕ) → part c m G ≡ part c m F → (i : ℕ) → c ≤ i → i < c + m → at G i ≡ at F i
part_at F G c m e i low high =
    let is : i ≡ c + (i - c) = omega arith in
    let few : i - c < m = omega arith in
    ap (at G) is ∙ sym (get_d_part c m G (i - c) nan few) ∙ ap (λ (v : List Float). at v (i - c)) e ∙ get_d_part c m F (i - c) nan few
    ∙ ap (at F) (sym is)

-- ---- values

module _ (w : List ℕ) where
  -- A float behind the values of a level is none of them,
  own_after : (a b i : ℕ) → b + entries_at w a ≤ i → own_value w a b i ≡ false
  own_after a b i h =
      let p = locate w a b in
      both_not (leb p.values i) _ (le-ltb i (p.values + p.entries) h)

  -- nor is one before them,
  own_before : (a b i : ℕ) → i < b → own_value w a b i ≡ false
  own_before a b i h = rw (lt-leb b i h)

  -- and each that is none of them stands behind.
  own_not : (a b i : ℕ) → b ≤ i → own_value w a b i ≡ false → b + entries_at w a ≤ i
  own_not a b i low e = go (le_or_lt (b + entries_at w a) i)
    where
      go : (b + entries_at w a ≤ i) ⊎ (i < b + entries_at w a) → b + entries_at w a ≤ i
      go (inl h) = h
      go (inr h) = absurd (not_both (both (le-leb b i low) (lt-ltb i (b + entries_at w a) h)) e)

  -- A level's coefficients start behind its values, and its floats end behind those.
  floats_behind : (a b : ℕ) → b + entries_at w a ≤ floats_end w a b
  unfolding floats_end
  floats_behind a b = omega arith

  -- A float before the levels is none of their values.
  value_before : (k a b i : ℕ) → i < b → value_at k w a b i ≡ false
  unfolding value_at
  value_before zero a b i h = refl
  value_before (suc k) a b i h =
      neither (own_value w a b i) (value_at k w (words_end w a) (floats_end w a b) i) (own_before a b i h)
      (value_before k (words_end w a) (floats_end w a b) i (omega (arith, floats_behind a b)))

  -- Nor is one behind the levels.
  value_after : (k a b i : ℕ) → image_end k w a b ≤ i → value_at k w a b i ≡ false
  unfolding value_at image_end
  value_after zero a b i h = refl
  value_after (suc k) a b i h =
      neither (own_value w a b i) (value_at k w (words_end w a) (floats_end w a b) i)
      (own_after a b i (omega (arith, floats_behind a b, floats_to k w (words_end w a) (floats_end w a b))))
      (value_after k (words_end w a) (floats_end w a b) i h)

  module _ (k a b i : ℕ) where
    -- One of the first level's numbers is none,
    value_here : b + entries_at w a ≤ i → i < floats_end w a b → value_at (suc k) w a b i ≡ false
    unfolding value_at
    value_here low high =
        neither (own_value w a b i) (value_at k w (words_end w a) (floats_end w a b) i) (own_after a b i low)
        (value_before k (words_end w a) (floats_end w a b) i high)

    -- and one behind the first level is one if it is one of the others'.
    value_on : floats_end w a b ≤ i → value_at k w (words_end w a) (floats_end w a b) i ≡ false → value_at (suc k) w a b i ≡ false
    unfolding value_at
    value_on low e =
        neither (own_value w a b i) (value_at k w (words_end w a) (floats_end w a b) i) (own_after a b i (omega (arith, floats_behind a b))) e

    -- What is none is none of the first level's, which end before it,
    value_first : b ≤ i → value_at (suc k) w a b i ≡ false → b + entries_at w a ≤ i
    unfolding value_at
    value_first low e = own_not a b i low (neither_l (own_value w a b i) (value_at k w (words_end w a) (floats_end w a b) i) e)

    -- and none of the others'.
    value_rest : value_at (suc k) w a b i ≡ false → value_at k w (words_end w a) (floats_end w a b) i ≡ false
    unfolding value_at
    value_rest e = neither_r (own_value w a b i) (value_at k w (words_end w a) (floats_end w a b) i) e

  -- ---- floats that agree hold the same levels

  module _ (F G : List Float) where
    level_same : (a b : ℕ) → length G ≡ length F → ((i : ℕ) → b + entries_at w a ≤ i → i < floats_end w a b → at G i ≡ at F i)
        → level_at w G a b ≡ level_at w F a b
    level_same a b size same =
        let still : Moved (b + entries_at w a) (floats_end w a b) 0 F G = record {
          same = λ i m l h. part_same F G i m size (λ j low high. same j (omega arith) (omega arith)) ∙ ap (λ (k : ℕ). part k m F) (omega arith);
        } in
        level_moved still w a b (omega arith) (omega arith) ∙ ap (level_at w F a) (omega arith)

    levels_same : (k a b : ℕ) → length G ≡ length F
        → ((i : ℕ) → b ≤ i → i < image_end k w a b → value_at k w a b i ≡ false → at G i ≡ at F i)
        → levels_at k w G a b ≡ levels_at k w F a b
    unfolding levels_at image_end
    levels_same zero a b size same = refl
    levels_same (suc k) a b size same =
        let up = floats_to k w (words_end w a) (floats_end w a b) in
        let behind = floats_behind a b in
        let here = level_same a b size (λ i l h. same i (omega arith) (omega arith) (value_here k a b i l h)) in
        let deeper = levels_same k (words_end w a) (floats_end w a b) size
        (λ i l h e. same i (omega arith) (omega arith) (value_on k a b i l e)) in
        rw (here, deeper)

    -- ---- and those that hold the same levels agree

    -- Of a level's numbers each is one of five vectors'.
    module _ (a b : ℕ) (e : numbers_at G (locate w a b) (coupled_at w a) ≡ numbers_at F (locate w a b) (coupled_at w a)) (i : ℕ) where
      abbrev p : Place
      p = locate w a b

      factor_same : i < floats_end w a b → p.factor ≤ i → at G i ≡ at F i
      unfolding floats_end
      factor_same high l = part_at F G p.factor _ (ap (λ (n : Numbers). n.factor) e) i l high

      number_same : p.coefficients ≤ i → i < floats_end w a b → at G i ≡ at F i
      number_same low high = first (le_or_lt p.diagonal i)
        where
          fourth : p.dic ≤ i → (p.factor ≤ i) ⊎ (i < p.factor) → at G i ≡ at F i
          fourth l (inl h) = factor_same high h
          fourth l (inr h) = part_at F G p.dic p.rows (ap (λ (n : Numbers). n.dic) e) i l h

          third : p.inverse ≤ i → (p.dic ≤ i) ⊎ (i < p.dic) → at G i ≡ at F i
          third l (inl h) = fourth h (le_or_lt p.factor i)
          third l (inr h) = part_at F G p.inverse p.rows (ap (λ (n : Numbers). n.inverse) e) i l h

          second : p.diagonal ≤ i → (p.inverse ≤ i) ⊎ (i < p.inverse) → at G i ≡ at F i
          second l (inl h) = third h (le_or_lt p.dic i)
          second l (inr h) = part_at F G p.diagonal p.rows (ap (λ (n : Numbers). n.diagonal) e) i l h

          first : (p.diagonal ≤ i) ⊎ (i < p.diagonal) → at G i ≡ at F i
          first (inl h) = second h (le_or_lt p.inverse i)
          first (inr h) = part_at F G p.coefficients p.faces (ap (λ (n : Numbers). n.coefficients) e) i low h

    numbers_are : (a b : ℕ) → level_at w G a b ≡ level_at w F a b
        → numbers_at G (locate w a b) (coupled_at w a) ≡ numbers_at F (locate w a b) (coupled_at w a)
    unfolding level_at
    numbers_are a b e = ap (λ (l : Level). l.numbers) e

    -- A float that is no value is one of the first level's numbers, or stands behind that level.
    step_same : (k a b i : ℕ) → levels_at (suc k) w G a b ≡ levels_at (suc k) w F a b
        → (levels_at k w G (words_end w a) (floats_end w a b) ≡ levels_at k w F (words_end w a) (floats_end w a b)
        → floats_end w a b ≤ i → value_at k w (words_end w a) (floats_end w a b) i ≡ false → at G i ≡ at F i)
        → b ≤ i → value_at (suc k) w a b i ≡ false → at G i ≡ at F i
    unfolding levels_at
    step_same k a b i e others low none = go (le_or_lt (floats_end w a b) i)
      where
        here : level_at w G a b ≡ level_at w F a b
        here = cc

        go : (floats_end w a b ≤ i) ⊎ (i < floats_end w a b) → at G i ≡ at F i
        go (inl h) = others (cc) h (value_rest k a b i none)
        go (inr h) = number_same a b (numbers_are a b here) i (value_first k a b i low none) h

    value_same : (k a b : ℕ) → levels_at k w G a b ≡ levels_at k w F a b
        → (i : ℕ) → b ≤ i → i < image_end k w a b → value_at k w a b i ≡ false → at G i ≡ at F i
    unfolding image_end
    value_same zero a b e i low high none = absurd (omega arith)
    value_same (suc k) a b e i low high none =
        step_same k a b i e (λ e l n. value_same k (words_end w a) (floats_end w a b) e i l high n) low none

-- ---- the hierarchy

module _ (levels : ℕ) (w : List ℕ) (F G : List Float) where
  -- Floats of one size that agree outside scratch hold the same hierarchy,
  pub view_agrees : length G ≡ length F → ((i : ℕ) → scratch_float levels w i ≡ false → at G i ≡ at F i)
      → view_of levels w G 0 ≡ view_of levels w F 0
  unfolding view_of
  view_agrees size same =
      let end = image_end levels w 0 0 in
      let free : (i : ℕ) → i < image_of levels w → value_at levels w 0 0 i ≡ false → at G i ≡ at F i =
      λ i h e. same i (neither (value_at levels w 0 0 i) (leb (image_of levels w) i) e (lt-leb (image_of levels w) i h)) in
      let all = levels_same w F G levels 0 0 size (λ i l h e. free i (omega arith) e) in
      let sums : part end (finest_rows levels w) G ≡ part end (finest_rows levels w) F =
      part_same F G end (finest_rows levels w) size (λ i l h. free i h (value_after w levels 0 0 i l)) in
      cc

  -- and those that hold the same hierarchy agree outside scratch.
  pub agrees_view : view_of levels w G 0 ≡ view_of levels w F 0 → (i : ℕ) → scratch_float levels w i ≡ false → at G i ≡ at F i
  unfolding view_of
  agrees_view e i none = go (le_or_lt (image_end levels w 0 0) i)
    where
      inside : i < image_of levels w
      inside = leb-false (image_of levels w) i (neither_r (value_at levels w 0 0 i) (leb (image_of levels w) i) none)

      go : (image_end levels w 0 0 ≤ i) ⊎ (i < image_end levels w 0 0) → at G i ≡ at F i
      go (inl h) = part_at F G (image_end levels w 0 0) (finest_rows levels w) (ap (λ (k : Hierarchy). k.sums) e) i h inside
      go (inr h) = value_same w F G levels 0 0 (ap (λ (k : Hierarchy). k.levels) e) i (omega arith) h
          (neither_l (value_at levels w 0 0 i) (leb (image_of levels w) i) none)
