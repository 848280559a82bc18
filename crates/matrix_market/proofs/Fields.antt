-- The fields of a line, one after the other. Assumes nothing.
use mathlib.Core.Path.{◌≡◌, refl, sym, ap, ◌∙◌, subst}
use mathlib.Core.Bool.{Bool, true, false, cond, ◌&&◌, ◌||◌, true≢false}
use mathlib.Core.List.{List, [], ◌∷◌}
use mathlib.Core.Logic.{⊎_elim}
use Prim.Native.Nat.{ℕ, suc, ◌+◌, ◌-◌, ◌≤◌, ◌<◌}
use native.Mathlib.Numerals.{add-one}
use native.Mathlib.Omega.{arith}
use lib.Dec.{eqb, ltb}
use lib.ListN.{length, take, drop, get_or, length-drop, drop_of_length-le}
use lib.Seq.{drop-cons, take_all, drop-drop, length-take-le}
use borrow.Author.Tests.{lt-ltb, ltb-true, eqb-true, eq-eqb, ne_eqb}
use Rattle.store.proofs.store.Region.{le_or_lt}
use Rattle.store.proofs.store.Each.{both_l, both_r}
use Rattle.decimal_text.specs.Field.{place_of}
use Rattle.decimal_text.proofs.Digits.{place_within}
use Rattle.matrix_market.specs.declared.lines.Field.{Field}
use Rattle.matrix_market.specs.Lines.{grown, pieces_of, kept, is_some, fields_of}
use Rattle.matrix_market.specs.Walk.{blanks_of, bytes_of, NextField, AreFields}
use Rattle.matrix_market.proofs.Pieces.{pieces_last, pieces_next, pieces_cut, place_is}

-- ---- leading blanks

pub blanks_within : (l : List ℕ) → blanks_of l ≤ length l
unfolding blanks_of
blanks_within [] = omega arith
blanks_within (x ∷ l) = go (eqb x 32 || eqb x 9) (blanks_within l)
  where
    go : (t : Bool) → blanks_of l ≤ length l → cond t (suc (blanks_of l)) 0 ≤ suc (length l)
    go true h = omega arith
    go false h = omega arith

module _ (s : List ℕ) (i : ℕ) (inv : i + blanks_of (drop i s) ≡ blanks_of s) where
  pub blanks_on : i < length s → (eqb (get_or s i 0) 32 || eqb (get_or s i 0) 9) ≡ true → i + 1 + blanks_of (drop (i + 1) s) ≡ blanks_of s
  unfolding blanks_of
  blanks_on h t =
      let e : blanks_of (drop i s) ≡ suc (blanks_of (drop (suc i) s)) = ap blanks_of (drop-cons s i 0 h) ∙ ap (λ (x : Bool). cond x (suc (blanks_of (drop (suc i) s))) 0) t in
      let f : blanks_of (drop (i + 1) s) ≡ blanks_of (drop (suc i) s) = ap (λ (k : ℕ). blanks_of (drop k s)) (add-one i) in
      omega arith

  pub blanks_here : i < length s → (eqb (get_or s i 0) 32 || eqb (get_or s i 0) 9) ≡ false → i ≡ blanks_of s
  unfolding blanks_of
  blanks_here h t =
      let e : blanks_of (drop i s) ≡ 0 = ap blanks_of (drop-cons s i 0 h) ∙ ap (λ (x : Bool). cond x (suc (blanks_of (drop (suc i) s))) 0) t in
      omega arith

  pub blanks_end : length s ≤ i → i ≡ blanks_of s
  unfolding blanks_of
  blanks_end h = let e : blanks_of (drop i s) ≡ 0 = ap blanks_of (drop_of_length-le s h) in omega arith

-- they change no field
fields_skip : (l : List ℕ) → fields_of l ≡ fields_of (drop (blanks_of l) l)
unfolding pieces_of blanks_of kept
fields_skip [] = refl
fields_skip (x ∷ l) = go (eqb x 32 || eqb x 9) refl (fields_skip l)
  where
    go : (t : Bool) → (eqb x 32 || eqb x 9) ≡ t → fields_of l ≡ fields_of (drop (blanks_of l) l) → kept is_some (cond t ([] ∷ pieces_of 32 9 l) (grown x (pieces_of 32 9 l))) ≡ fields_of (drop (cond t (suc (blanks_of l)) 0) (x ∷ l))
    go true e on = on
    go false e on = ap (λ (b : Bool). kept is_some (cond b ([] ∷ pieces_of 32 9 l) (grown x (pieces_of 32 9 l)))) (sym e)

-- what follows them, if anything, is a field
blanks_stop : (l : List ℕ) → blanks_of l < length l → 0 < place_of 32 9 (drop (blanks_of l) l)
unfolding blanks_of place_of
blanks_stop [] h = absurd (none h)
  where
    none : 0 < 0 → ⊥
    none h = omega arith
blanks_stop (x ∷ l) h = go (eqb x 32 || eqb x 9) refl h (blanks_stop l)
  where
    go : (t : Bool) → (eqb x 32 || eqb x 9) ≡ t → cond t (suc (blanks_of l)) 0 < suc (length l) → (blanks_of l < length l → 0 < place_of 32 9 (drop (blanks_of l) l)) → 0 < place_of 32 9 (drop (cond t (suc (blanks_of l)) 0) (x ∷ l))
    go true e h on = on (omega arith)
    go false e h on = subst (λ (b : Bool). 0 < cond b 0 (suc (place_of 32 9 l))) (sym e) (omega arith)

-- ---- the first field

kept_yes : (p : List ℕ) (ps : List (List ℕ)) → 0 < length p → kept is_some (p ∷ ps) ≡ p ∷ kept is_some ps
unfolding kept
kept_yes p ps h = ap (λ (b : Bool). cond b (p ∷ kept is_some ps) (kept is_some ps)) (lt-ltb 0 (length p) h)

no_fields : (l : List ℕ) → l ≡ [] → fields_of l ≡ []
unfolding kept pieces_of
no_fields l e = ap fields_of e

fields_cut : (x : ℕ) (l : List ℕ) → (eqb x 32 || eqb x 9) ≡ true → fields_of (x ∷ l) ≡ fields_of l
unfolding kept
fields_cut x l e = ap (kept is_some) (pieces_cut 32 9 x l e)

fields_first : (l : List ℕ) → 0 < place_of 32 9 l → fields_of l ≡ take (place_of 32 9 l) l ∷ fields_of (drop (place_of 32 9 l) l)
unfolding kept
fields_first l h =
    ⊎_elim
    (λ (g : length l ≤ p).
    let e : take p l ≡ l = take_all p l g in
    let n : 0 < length l = omega (arith, place_within 32 9 l) in
    ap (kept is_some) (pieces_last 32 9 l g) ∙ kept_yes l [] n ∙ ap (λ (k : List ℕ). k ∷ []) (sym e) ∙ ap (λ (k : List (List ℕ)). take p l ∷ k) (sym (no_fields (drop p l) (drop_of_length-le l g))))
    (λ (g : p < length l).
    let n : 0 < length (take p l) = omega (arith, length-take-le p l (place_within 32 9 l)) in
    let r : drop p l ≡ get_or l p 0 ∷ drop (suc p) l = drop-cons l p 0 g in
    ap (kept is_some) (pieces_next 32 9 l g) ∙ kept_yes (take p l) (pieces_of 32 9 (drop (p + 1) l)) n
    ∙ ap (λ (k : ℕ). take p l ∷ fields_of (drop k l)) (add-one p)
    ∙ ap (λ (k : List (List ℕ)). take p l ∷ k) (sym (fields_cut (get_or l p 0) (drop (suc p) l) (place_is 32 9 l g)) ∙ ap fields_of (sym r)))
    (le_or_lt (length l) p)
  where
    p : ℕ
    p = place_of 32 9 l

-- the next field, as the code finds it
pub next_is : (l : List ℕ) (at : ℕ) (f : Field) → at ≤ length l → f.from ≡ at + blanks_of (drop at l) → f.to ≡ f.from + place_of 32 9 (drop f.from l) → NextField l at f
next_is l at f h e g =
    let d : length (drop at l) ≡ length l - at = length-drop at l in
    let k : length (drop f.from l) ≡ length l - f.from = length-drop f.from l in
    let m : drop (blanks_of (drop at l)) (drop at l) ≡ drop f.from l = drop-drop (blanks_of (drop at l)) at l ∙ ap (λ (i : ℕ). drop i l) (sym e) in
    let a : fields_of (drop at l) ≡ fields_of (drop f.from l) = fields_skip (drop at l) ∙ ap fields_of m in
    let w : f.from ≤ length l = omega (arith, blanks_within (drop at l)) in
    let b : f.to - f.from ≡ place_of 32 9 (drop f.from l) = omega arith in
    let c : drop (place_of 32 9 (drop f.from l)) (drop f.from l) ≡ drop f.to l = drop-drop (place_of 32 9 (drop f.from l)) f.from l ∙ ap (λ (i : ℕ). drop i l) (sym g) in
    record {
      ahead = omega arith;
      order = omega arith;
      within = omega (arith, place_within 32 9 (drop f.from l));
      some = λ (s : f.from < length l).
          let q : blanks_of (drop at l) < length (drop at l) = omega arith in
          let p : 0 < place_of 32 9 (drop f.from l) = subst (λ (t : List ℕ). 0 < place_of 32 9 t) m (blanks_stop (drop at l) q) in
          a ∙ fields_first (drop f.from l) p ∙ ap (λ (t : List ℕ). take (place_of 32 9 (drop f.from l)) (drop f.from l) ∷ fields_of t) c
          ∙ ap (λ (n : ℕ). take n (drop f.from l) ∷ fields_of (drop f.to l)) (sym b);
      none = λ (s : f.from ≡ length l).
          let q : length l ≤ f.from = omega arith in
          a ∙ no_fields (drop f.from l) (drop_of_length-le l q);
    }

-- ---- three fields

module _ {l : List ℕ} {a b c d : Field} (A : NextField l 0 a) (B : NextField l a.to b) (C : NextField l b.to c) (D : NextField l c.to d) where
  pub three_yes : (ltb c.from (length l) && eqb d.from (length l)) ≡ true → fields_of l ≡ bytes_of l a ∷ bytes_of l b ∷ bytes_of l c ∷ []
  three_yes h =
      let k : c.from < length l = ltb-true c.from (length l) (both_l (ltb c.from (length l)) (eqb d.from (length l)) h) in
      let e : d.from ≡ length l = eqb-true d.from (length l) (both_r (ltb c.from (length l)) (eqb d.from (length l)) h) in
      let i : a.from < length l = omega (arith, A.order, B.ahead, B.order, C.ahead) in
      let j : b.from < length l = omega (arith, B.order, C.ahead) in
      A.some i ∙ ap (λ (t : List (List ℕ)). bytes_of l a ∷ t) (B.some j ∙ ap (λ (t : List (List ℕ)). bytes_of l b ∷ t) (C.some k ∙ ap (λ (t : List (List ℕ)). bytes_of l c ∷ t) (D.none e)))

  not_three : (n : ℕ) → length (fields_of l) ≡ n → (n ≡ 3 → ⊥) → eqb (length (fields_of l)) 3 ≡ false
  not_three n e h = ne_eqb (length (fields_of l)) 3 (λ (g : length (fields_of l) ≡ 3). h (sym e ∙ g))

  pub three_no : (ltb c.from (length l) && eqb d.from (length l)) ≡ false → eqb (length (fields_of l)) 3 ≡ false
  three_no h =
      ⊎_elim
      (λ (x : length l ≤ a.from). let e : a.from ≡ length l = omega (arith, A.order, A.within) in not_three 0 (ap length (A.none e)) (λ (g : 0 ≡ 3). zero_three g))
      (λ (x : a.from < length l). ⊎_elim
      (λ (y : length l ≤ b.from). let e : b.from ≡ length l = omega (arith, B.order, B.within) in not_three 1 (ap length (A.some x ∙ ap (λ (t : List (List ℕ)). bytes_of l a ∷ t) (B.none e))) (λ (g : 1 ≡ 3). one_three g))
      (λ (y : b.from < length l). ⊎_elim
      (λ (z : length l ≤ c.from). let e : c.from ≡ length l = omega (arith, C.order, C.within) in not_three 2 (ap length (A.some x ∙ ap (λ (t : List (List ℕ)). bytes_of l a ∷ t) (B.some y ∙ ap (λ (t : List (List ℕ)). bytes_of l b ∷ t) (C.none e)))) (λ (g : 2 ≡ 3). two_three g))
      (λ (z : c.from < length l). ⊎_elim
      (λ (w : length l ≤ d.from).
      let e : d.from ≡ length l = omega (arith, D.order, D.within) in
      absurd (true≢false (sym (ap (λ (t : Bool). t && eqb d.from (length l)) (lt-ltb c.from (length l) z) ∙ eq-eqb d.from (length l) e) ∙ h)))
      (λ (w : d.from < length l). not_three (suc (suc (suc (suc (length (fields_of (drop d.to l)))))))
      (ap length (A.some x ∙ ap (λ (t : List (List ℕ)). bytes_of l a ∷ t) (B.some y ∙ ap (λ (t : List (List ℕ)). bytes_of l b ∷ t) (C.some z ∙ ap (λ (t : List (List ℕ)). bytes_of l c ∷ t) (D.some w)))))
      (four_three (length (fields_of (drop d.to l)))))
      (le_or_lt (length l) d.from))
      (le_or_lt (length l) c.from))
      (le_or_lt (length l) b.from))
      (le_or_lt (length l) a.from)
    where
      zero_three : ◌≡◌ {A = ℕ} 0 3 → ⊥
      zero_three g = omega arith

      one_three : ◌≡◌ {A = ℕ} 1 3 → ⊥
      one_three g = omega arith

      two_three : ◌≡◌ {A = ℕ} 2 3 → ⊥
      two_three g = omega arith

      four_three : (n : ℕ) → suc (suc (suc (suc n))) ≡ 3 → ⊥
      four_three n g = omega arith

  pub three_are : (ltb c.from (length l) && eqb d.from (length l)) ≡ true → AreFields l a b c
  three_are t = record { are = three_yes t; first = (A.order, A.within); second = (B.order, B.within); third = (C.order, C.within) }
