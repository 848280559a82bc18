-- Questions 31 and 10 of an update, as the code asks them.
-- Assumes nothing.
use Rattle.std.specs.Prelude.{Result, Ok, Err}
use mathlib.Core.Path.{◌≡◌, refl, sym, ap, ◌∙◌}
use mathlib.Core.Bool.{Bool, true, false, ◌&&◌}
use mathlib.Core.List.{List}
use Prim.Native.Nat.{ℕ, ◌+◌, ◌≤◌, ◌<◌}
use native.Mathlib.Numerals.{add-one}
use native.Mathlib.Omega.{arith}
use lib.Dec.{eqb}
use lib.ListN.{length}
use lib.Ieee.{Float}
use borrow.Author.Tests.{eqb-true, eq-eqb, ne_eqb}
use Rattle.store.specs.Region.{at, idx, part, Wrote, Kept}
use Rattle.store.specs.Vector.{tab, each}
use Rattle.store.proofs.store.Region.{get_d_part, length_part, wrote_at, kept_wrote, kept_self}
use Rattle.store.proofs.store.Each.{both_l, both_r, each_same}
use Rattle.refusal.specs.Refusal.{not_symmetric, other_pattern}
use Rattle.refusal.specs.declared.Refusal.{Refusal}
use Rattle.refusal.specs.Outcome.{Outcome, refused, passed, ask, verdict_of}
use Rattle.refusal.proofs.Outcome.{ask_yes, ask_no}
use Rattle.coefficients.specs.Mirrors.{mirrors_agree}
use Rattle.coefficients.specs.Contract.{MirrorsOk, Taken}
use Rattle.layout.specs.declared.Place.{Place}
use Rattle.layout.specs.Layout.{entries_at, locate}
use Rattle.index_check.specs.Sound.{shape_in}
use Rattle.update_levels.specs.Update.{same_list, same_pattern, empty_pattern}
use Rattle.update_levels.specs.StandingContract.{bare_at}
use Rattle.update_levels.specs.Level.{FacesReady}
use Rattle.update.specs.Arrays.{asked_of, empty_asked, PatternOk, AskOk, Asked}

module _ (w : List ℕ) (from : ℕ) (v : List ℕ) where
  -- the test of index k
  abbrev pub word_same : ℕ → Bool
  word_same k = eqb (idx v k) (idx w (from + k))

  -- The invariant of the loop: the answer so far is that of the words passed.
  pub record Gathered (k : ℕ) (ok : Bool) : Type 0 where
    pub is : ok ≡ each word_same k
    pub within : k ≤ length v

  -- At the start there is none.
  pub gathered_start : Gathered 0 true
  unfolding each
  gathered_start = record { is = refl; within = omega arith }

  -- A turn takes one word more.
  pub gathered_on : {k : ℕ} {ok : Bool} → Gathered k ok → k < length v → Gathered (k + 1) (ok && eqb (idx v k) (idx w (from + k)))
  unfolding each
  gathered_on {k} g h = record { is = rw (add-one k, g.is); within = omega arith }

  -- At the end they are all.
  pub gathered_end : {k : ℕ} {ok : Bool} → Gathered k ok → length v ≤ k → ok ≡ each word_same (length v)
  gathered_end {k} g h =
      let b : k ≤ length v = g.within in
      let z : k ≡ length v = omega arith in
      g.is ∙ ap (each word_same) z

  module _ {n : ℕ} (fits : from + n ≤ length w) where
    -- Lists of different lengths are not the same.
    pub words_differ : (length v ≡ n → ⊥) → false ≡ same_list v (part from n w)
    unfolding same_list
    words_differ e = let l = length_part from n w fits in sym (rw (l, ne_eqb (length v) n e))

    -- Those of the same length are compared word by word.
    pub words_same : length v ≡ n → {r : Bool} → r ≡ each word_same (length v) → r ≡ same_list v (part from n w)
    unfolding same_list
    words_same e {r} t =
        let l : length (part from n w) ≡ n = length_part from n w fits in
        let long : eqb (length v) n ≡ true = eq-eqb (length v) n e in
        t ∙ ap (each word_same) e
        ∙ each_same word_same (λ k. eqb (idx v k) (idx (part from n w) k)) n (λ k h. ap (eqb (idx v k)) (sym (get_d_part from n w k 0 h)))
        ∙ sym (rw (l, long))

-- Question 31.
pub pattern_same : (w : List ℕ) (p : Place) (offsets columns : List ℕ) (values : List Float) {a b : Bool}
    → a ≡ same_list offsets (part p.offsets (p.rows + 1) w) → b ≡ same_list columns (part p.columns p.entries w)
    → (a && b && eqb (length values) (length columns)) ≡ same_pattern (bare_at w p) offsets columns values
unfolding same_pattern
pattern_same w p offsets columns values e f = rw (e, f)

-- A refusal is no pass.
no_pass : {A : Type 0} {q : Refusal} → ◌≡◌ {A = Result Unit Refusal} (Err q) (Ok tt) → A
no_pass e = absurd (let none : ◌≡◌ {A = ℕ} 0 1 = cc in omega arith)

-- What question 31 tells: as many values as the finest level has entries.
pub many_values : {w : List ℕ} {size image : ℕ} (offsets columns : List ℕ) (values : List Float) → AskOk w size image → same_pattern (shape_in w 0) offsets columns values ≡ true
    → length values ≡ entries_at w 0
unfolding same_pattern same_list
many_values {w} {size} {image} offsets columns values ok e =
    let p = locate w 0 0 in
    let rows = same_list offsets (part p.offsets (p.rows + 1) w) in
    let same = same_list columns (part p.columns p.entries w) in
    let one = both_r (rows && same) (eqb (length values) (length columns)) e in
    let two = both_r rows same (both_l (rows && same) (eqb (length values) (length columns)) e) in
    let three = both_l (eqb (length columns) (length (part p.columns p.entries w))) _ two in
    eqb-true (length values) (length columns) one ∙ eqb-true (length columns) (length (part p.columns p.entries w)) three
    ∙ length_part p.columns p.entries w ok.pattern.columns

module _ {w : List ℕ} (F : List Float) {image : ℕ} (offsets columns : List ℕ) (values : List Float) {p : Place} {t : Bool} (ok : AskOk w (length F) image)
    (is : p ≡ locate w 0 image) (e : t ≡ same_pattern (bare_at w p) offsets columns values) where
  -- the questions
  abbrev wanted : Outcome Unit
  wanted = asked_of (shape_in w 0) offsets columns values

  -- The answer of question 31 is that of the finest shape.
  same_is : t ≡ same_pattern (shape_in w 0) offsets columns values
  unfolding same_pattern
  same_is = rw is at e

  -- What question 10 requires.
  pub mirrors_ready : t ≡ true → MirrorsOk w (length values) p.faces p.uppers p.lowers × (p.coefficients + p.faces ≤ length F)
  mirrors_ready told =
      let many : length values ≡ entries_at w 0 = many_values offsets columns values ok (sym same_is ∙ told) in
      let inside = ok.inside in
      rw (is, many) (record { uppers = omega arith; lowers = omega arith; up = ok.uppers; low = ok.lowers }, ok.room)

  -- Question 31 refuses.
  pub asked_other : t ≡ false → Asked w F F offsets columns values image (Err other_pattern)
  asked_other fails =
      let no : wanted ≡ refused other_pattern = ask_no (same_pattern (shape_in w 0) offsets columns values) other_pattern _ (sym same_is ∙ fails) in
      record { answer = sym (ap verdict_of no); taken = λ y. no_pass y; kept = kept_self }

  module _ (told : t ≡ true) {G : List Float} {m : Bool} (took : Taken w values F G p.faces p.uppers p.lowers p.coefficients m) where
    -- The answer of question 10 is that of the finest shape.
    mirrors_are : mirrors_agree (length (shape_in w 0).uppers) (shape_in w 0).uppers (shape_in w 0).lowers values ≡ m
    mirrors_are =
        let q = locate w 0 0 in
        let inside = ok.inside in
        let l : length (part q.uppers q.faces w) ≡ q.faces = length_part q.uppers q.faces w (omega arith) in
        ap (λ (n : ℕ). mirrors_agree n (part q.uppers q.faces w) (part q.lowers q.faces w) values) l ∙ sym (rw is at took.agree)

    -- Once 31 has passed, 10 is asked.
    on : wanted ≡ ask m not_symmetric passed
    on =
        let s = shape_in w 0 in
        ask_yes (same_pattern s offsets columns values) other_pattern
        (ask (mirrors_agree (length s.uppers) s.uppers s.lowers values) not_symmetric passed) (sym same_is ∙ told)
        ∙ ap (λ (b : Bool). ask b not_symmetric passed) mirrors_are

    -- The values stand where the coefficients are, and nothing below the shadow changed.
    there : FacesReady w values G (locate w 0 image)
    there =
        let w' : Wrote (locate w 0 image).coefficients (locate w 0 image).faces (tab (λ k. at values (idx (part (locate w 0 image).uppers (locate w 0 image).faces w) k)) (locate w 0 image).faces) F G =
        rw is at took.wrote in
        wrote_at w' ok.room

    under : Kept image F G
    under = kept_wrote took.wrote (rw is (omega arith))

    -- Question 10 refuses.
    pub asked_asymmetric : m ≡ false → Asked w F G offsets columns values image (Err not_symmetric)
    asked_asymmetric fails =
        record { answer = sym (ap verdict_of (on ∙ ask_no m not_symmetric passed fails)); taken = λ y. no_pass y; kept = under }

    -- Both pass.
    pub asked_passed : m ≡ true → Asked w F G offsets columns values image (Ok tt)
    asked_passed holds =
        record { answer = sym (ap verdict_of (on ∙ ask_yes m not_symmetric passed holds)); taken = λ _. there; kept = under }

-- What the comparison of the pattern requires.
pub pattern_ready : {w : List ℕ} {size image : ℕ} {p : Place} → AskOk w size image → p ≡ locate w 0 image → PatternOk w p
pattern_ready ok is = rw is (record { offsets = ok.pattern.offsets; columns = ok.pattern.columns })

-- ---- no rows

module _ (offsets columns : List ℕ) (values : List Float) where
  -- There is not one offset,
  pub empty_other : (length offsets ≡ 1 → ⊥) → false ≡ empty_pattern offsets columns values
  unfolding empty_pattern
  empty_other n = rw (ne_eqb (length offsets) 1 n)

  -- or there is, and the rest is asked.
  pub empty_same : length offsets ≡ 1 → (eqb (idx offsets 0) 0 && eqb (length columns) 0 && eqb (length values) 0) ≡ empty_pattern offsets columns values
  unfolding empty_pattern
  empty_same e = rw (eq-eqb (length offsets) 1 e)

  module _ {t : Bool} (is : t ≡ empty_pattern offsets columns values) where
    -- Question 31 as an answer.
    pub empty_passed : t ≡ true → (Ok tt) ≡ verdict_of (empty_asked offsets columns values)
    empty_passed holds = let e = sym is ∙ holds in rw e

    pub empty_refused : t ≡ false → Err other_pattern ≡ verdict_of (empty_asked offsets columns values)
    empty_refused fails = let e = sym is ∙ fails in rw e
