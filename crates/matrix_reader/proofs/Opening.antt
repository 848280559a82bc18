-- The steps of reading a header and a size line. Assumes nothing.
use mathlib.Core.Path.{◌≡◌, refl, sym, ap, subst, ◌∙◌}
use mathlib.Core.Logic.{⊎_elim}
use mathlib.Core.Bool.{Bool, true, false, cond, ◌&&◌}
use mathlib.Core.List.{List, [], ◌∷◌}
use Prim.Native.Nat.{ℕ, ◌-◌, ◌^◌, ◌≤◌, ◌<◌, min}
use native.Mathlib.Omega.{arith}
use lib.Dec.{eqb, ltb, leb}
use lib.ListN.{length, take, drop}
use borrow.Author.Tests.{le-leb, lt-leb, leb-true}
use Rattle.std.specs.Prelude.{None, Result, Ok, Err, bytes_eq}
use Rattle.refusal.specs.declared.Refusal.{Refusal}
use Rattle.refusal.specs.Outcome.{Outcome, accepted, refused, ask}
use Rattle.refusal.specs.Refusal.{too_large, bad_matrix_file}
use Rattle.refusal.proofs.Outcome.{ask_yes, ask_no, then_accepted, then_refused, never, accepted_one}
use Rattle.store.proofs.store.Region.{le_or_lt}
use Rattle.decimal_text.specs.Field.{all_digits, is_number, number_of}
use Rattle.matrix_market.specs.declared.lines.Line.{Line}
use Rattle.matrix_market.specs.Lines.{fields_of, first_line, data_of}
use Rattle.matrix_market.specs.Walk.{FirstLine, NextIs, NextLine}
use Rattle.matrix_reader.specs.declared.head.FileSizes.{FileSizes}
use Rattle.matrix_reader.specs.declared.head.Head.{Head}
use Rattle.matrix_reader.specs.File.{header_of, same_bytes, kind_of, Stated, three_sizes, sizes_from, sizes_in, lines_after, after_sizes, after_kind}
use Rattle.matrix_reader.specs.Contract.{kind_answer, sizes_answer, SizesFound, SizeLineIs, HeadIs}

clash : true ≡ false → ⊥
clash z = let w : ◌≡◌ {A = ℕ} 0 1 = cc in omega arith

pub both_l : (x y : Bool) → (x && y) ≡ true → x ≡ true
both_l true y e = refl
both_l false y e = absurd (clash (sym e))

pub both_r : (x y : Bool) → (x && y) ≡ true → y ≡ true
both_r true y e = e
both_r false y e = absurd (clash (sym e))

-- ---- bytes

-- What `==` says of two slices of bytes.
pub same_is : (a b : List ℕ) → bytes_eq a b ≡ same_bytes a b
unfolding same_bytes
same_is [] [] = refl
same_is [] (y ∷ m) = refl
same_is (x ∷ l) [] = refl
same_is (x ∷ l) (y ∷ m) = ap (λ (t : Bool). eqb x y && t) (same_is l m)

-- ---- the kind

module _ (t : List ℕ) {n : ℕ} (f : FirstLine t n) {x : Bool} (p : x ≡ same_bytes (take n t) (header_of true)) where
  first : x ≡ same_bytes (first_line t) (header_of true)
  first = p ∙ ap (λ (l : List ℕ). same_bytes l (header_of true)) f.is

  pub kind_symmetric : x ≡ true → Ok true ≡ kind_answer (kind_of (first_line t))
  kind_symmetric h = ap (λ (b : Bool). kind_answer (cond b (accepted true) (ask (same_bytes (first_line t) (header_of false)) bad_matrix_file (accepted false)))) (sym h ∙ first)

  module _ {y : Bool} (h : x ≡ false) (q : y ≡ same_bytes (take n t) (header_of false)) where
    second : y ≡ same_bytes (first_line t) (header_of false)
    second = q ∙ ap (λ (l : List ℕ). same_bytes l (header_of false)) f.is

    past : kind_answer (ask (same_bytes (first_line t) (header_of false)) bad_matrix_file (accepted false)) ≡ kind_answer (kind_of (first_line t))
    past = ap (λ (b : Bool). kind_answer (cond b (accepted true) (ask (same_bytes (first_line t) (header_of false)) bad_matrix_file (accepted false)))) (sym h ∙ first)

    pub kind_general : y ≡ true → Ok false ≡ kind_answer (kind_of (first_line t))
    kind_general g = ap (λ (b : Bool). kind_answer (ask b bad_matrix_file (accepted false))) (sym g ∙ second) ∙ past

    pub kind_other : y ≡ false → Err bad_matrix_file ≡ kind_answer (kind_of (first_line t))
    kind_other g = ap (λ (b : Bool). kind_answer (ask b bad_matrix_file (accepted false))) (sym g ∙ second) ∙ past

-- ---- numbers

capped : (n k : ℕ) → k < 10 ^ 19 → leb (min n (10 ^ 19)) k ≡ leb n k
capped n k h =
    ⊎_elim
    (λ (g : n ≤ k). le-leb (min n (10 ^ 19)) k (omega arith) ∙ sym (le-leb n k g))
    (λ (g : k < n). lt-leb (min n (10 ^ 19)) k (omega arith) ∙ sym (lt-leb n k g))
    (le_or_lt n k)

-- ---- three sizes

module _ (a b c : List ℕ) {x y z : Bool} (p : x ≡ is_number a) (q : y ≡ is_number b) (r : z ≡ is_number c) where
  abbrev limits : Outcome Stated
  limits = ask (leb (number_of a) 65536 && leb (number_of c) 1048576) too_large (accepted (record { rows = number_of a; entries = number_of c }))

  abbrev square : Outcome Stated
  square = ask (eqb (number_of a) (number_of b)) bad_matrix_file limits

  tests_are : (x && (y && z)) ≡ (is_number a && (is_number b && is_number c))
  tests_are = ap (λ (t : Bool). t && (y && z)) p ∙ ap (λ (t : Bool). is_number a && (t && z)) q ∙ ap (λ (t : Bool). is_number a && (is_number b && t)) r

  pub sizes_other : (x && (y && z)) ≡ false → Err bad_matrix_file ≡ sizes_answer (three_sizes a b c)
  sizes_other h = ap sizes_answer (sym (ask_no (is_number a && (is_number b && is_number c)) bad_matrix_file square (sym tests_are ∙ h)))

  module _ (h : (x && (y && z)) ≡ true) where
    pub first_number : is_number a ≡ true
    first_number = sym p ∙ both_l x (y && z) h

    pub third_number : is_number c ≡ true
    third_number = sym r ∙ both_r y z (both_r x (y && z) h)

    pub digits_two : (all_digits a ≡ true) × (all_digits b ≡ true)
    digits_two = (both_r (ltb 0 (length a)) (all_digits a) first_number, both_r (ltb 0 (length b)) (all_digits b) (sym q ∙ both_l y z (both_r x (y && z) h)))

    past_numbers : square ≡ three_sizes a b c
    past_numbers = sym (ask_yes (is_number a && (is_number b && is_number c)) bad_matrix_file square (sym tests_are ∙ h))

    module _ {s : Bool} (k : s ≡ eqb (number_of a) (number_of b)) where
      pub sizes_uneven : s ≡ false → Err bad_matrix_file ≡ sizes_answer (three_sizes a b c)
      sizes_uneven g = ap sizes_answer (sym (ask_no (eqb (number_of a) (number_of b)) bad_matrix_file limits (sym k ∙ g)) ∙ past_numbers)

      module _ (g : s ≡ true) {m n : ℕ} (i : m ≡ min (number_of a) (10 ^ 19)) (j : n ≡ min (number_of c) (10 ^ 19)) where
        past_square : limits ≡ three_sizes a b c
        past_square = sym (ask_yes (eqb (number_of a) (number_of b)) bad_matrix_file limits (sym k ∙ g)) ∙ past_numbers

        within_are : (leb m 65536 && leb n 1048576) ≡ (leb (number_of a) 65536 && leb (number_of c) 1048576)
        within_are =
            ap (λ (t : Bool). t && leb n 1048576) (ap (λ (v : ℕ). leb v 65536) i ∙ capped (number_of a) 65536 (omega arith))
            ∙ ap (λ (t : Bool). leb (number_of a) 65536 && t) (ap (λ (v : ℕ). leb v 1048576) j ∙ capped (number_of c) 1048576 (omega arith))

        pub sizes_large : (leb m 65536 && leb n 1048576) ≡ false → Err too_large ≡ sizes_answer (three_sizes a b c)
        sizes_large w = ap sizes_answer (sym (ask_no (leb (number_of a) 65536 && leb (number_of c) 1048576) too_large (accepted (record { rows = number_of a; entries = number_of c })) (sym within_are ∙ w)) ∙ past_square)

        pub sizes_read : (leb m 65536 && leb n 1048576) ≡ true → Ok (record { rows = m; entries = n }) ≡ sizes_answer (three_sizes a b c)
        sizes_read w =
            let u : m ≤ 65536 = leb-true m 65536 (both_l (leb m 65536) (leb n 1048576) w) in
            let v : n ≤ 1048576 = leb-true n 1048576 (both_r (leb m 65536) (leb n 1048576) w) in
            let e : m ≡ number_of a = omega arith in
            let f : n ≡ number_of c = omega arith in
            ap (λ (t : ℕ). Ok (record { rows = t; entries = n })) e
            ∙ ap (λ (t : ℕ). Ok (record { rows = number_of a; entries = t })) f
            ∙ ap sizes_answer (sym (ask_yes (leb (number_of a) 65536 && leb (number_of c) 1048576) too_large (accepted (record { rows = number_of a; entries = number_of c })) (sym within_are ∙ w)) ∙ past_square)

-- ---- the size line

-- what the sizes are is known from the answer
told_sizes : (o : Outcome Stated) (z : FileSizes) → Ok z ≡ sizes_answer o → o ≡ accepted (record { rows = z.rows; entries = z.entries })
told_sizes (accepted s) z e = let f : z ≡ record { rows = s.rows; entries = s.entries } = cc in ap (λ (y : FileSizes). accepted (record { rows = y.rows; entries = y.entries })) (sym f)
told_sizes (refused q) z e = let w : ◌≡◌ {A = ℕ} 0 1 = cc in absurd (omega arith)

told_refusal : (o : Outcome Stated) (q : Refusal) → Err q ≡ sizes_answer o → o ≡ refused q
told_refusal (accepted s) q e = let w : ◌≡◌ {A = ℕ} 0 1 = cc in absurd (omega arith)
told_refusal (refused p) q e = cc

limits_kept : (a b c : List ℕ) (s : Stated) → three_sizes a b c ≡ accepted s → (s.rows ≤ 65536) × (s.entries ≤ 1048576)
limits_kept a b c s e = go (is_number a && (is_number b && is_number c)) (eqb (number_of a) (number_of b)) (leb (number_of a) 65536 && leb (number_of c) 1048576) refl e
  where
    go : (x y z : Bool) → (leb (number_of a) 65536 && leb (number_of c) 1048576) ≡ z
        → ask x bad_matrix_file (ask y bad_matrix_file (ask z too_large (accepted (record { rows = number_of a; entries = number_of c })))) ≡ accepted s → (s.rows ≤ 65536) × (s.entries ≤ 1048576)
    go false y z w e = never refl e
    go true false z w e = never refl e
    go true true false w e = never refl e
    go true true true w e =
        let f : record { rows = number_of a; entries = number_of c } ≡ s = accepted_one e in
        let u : number_of a ≤ 65536 = leb-true (number_of a) 65536 (both_l (leb (number_of a) 65536) (leb (number_of c) 1048576) w) in
        let v : number_of c ≤ 1048576 = leb-true (number_of c) 1048576 (both_r (leb (number_of a) 65536) (leb (number_of c) 1048576) w) in
        subst (λ (t : Stated). (t.rows ≤ 65536) × (t.entries ≤ 1048576)) f (u, v)

limits_from : (f : List (List ℕ)) (s : Stated) → sizes_from f ≡ accepted s → (s.rows ≤ 65536) × (s.entries ≤ 1048576)
limits_from [] s e = never refl e
limits_from (a ∷ []) s e = never refl e
limits_from (a ∷ b ∷ []) s e = never refl e
limits_from (a ∷ b ∷ c ∷ []) s e = limits_kept a b c s e
limits_from (a ∷ b ∷ c ∷ d ∷ f) s e = never refl e

pub size_none : (t : List ℕ) (symmetric : Bool) → NextLine t 0 None → SizeLineIs t symmetric (Err bad_matrix_file)
size_none t symmetric n = record {
  kind = λ h e. let w : ◌≡◌ {A = ℕ} 0 1 = cc in absurd (omega arith);
  yes = λ h e. let w : ◌≡◌ {A = ℕ} 0 1 = cc in absurd (omega arith);
  no = λ q e. let f : bad_matrix_file ≡ q = cc in ap sizes_in n ∙ ap refused f;
}

module _ (t : List ℕ) (symmetric : Bool) {l : Line} (n : NextIs t 0 l) {s : Result FileSizes Refusal} (e : s ≡ sizes_answer (sizes_from (fields_of (take (l.to - l.from) (drop l.from t))))) where
  abbrev line : List ℕ
  line = take (l.to - l.from) (drop l.from t)

  pub size_refused : (q : Refusal) → s ≡ Err q → SizeLineIs t symmetric (Err q)
  size_refused q f = record {
    kind = λ h e. let w : ◌≡◌ {A = ℕ} 0 1 = cc in absurd (omega arith);
    yes = λ h e. let w : ◌≡◌ {A = ℕ} 0 1 = cc in absurd (omega arith);
    no = λ p i. let j : q ≡ p = cc in ap sizes_in n.is ∙ told_refusal (sizes_from (fields_of line)) q (sym f ∙ e) ∙ ap refused j;
  }

  pub size_read : (z : FileSizes) → s ≡ Ok z
      → SizeLineIs t symmetric (Ok (record { symmetric = symmetric; rows = z.rows; entries = z.entries; next = l.next }))
  size_read z f =
      let o : sizes_from (fields_of line) ≡ accepted (record { rows = z.rows; entries = z.entries }) = told_sizes (sizes_from (fields_of line)) z (sym f ∙ e) in
      let k = limits_from (fields_of line) (record { rows = z.rows; entries = z.entries }) o in
      let found : SizesFound t (record { symmetric = symmetric; rows = z.rows; entries = z.entries; next = l.next }) = record {
        sizes = ap sizes_in n.is ∙ o;
        rest = sym (ap lines_after n.is);
        within = n.ahead;
        rows = k.0;
        entries = k.1;
      } in
      record {
        kind = λ h i. let j : record { symmetric = symmetric; rows = z.rows; entries = z.entries; next = l.next } ≡ h = cc in ap (λ (v : Head). v.symmetric) (sym j);
        yes = λ h i. let j : record { symmetric = symmetric; rows = z.rows; entries = z.entries; next = l.next } ≡ h = cc in subst (SizesFound t) j found;
        no = λ q i. let w : ◌≡◌ {A = ℕ} 0 1 = cc in absurd (omega arith);
      }

-- ---- header and size line

told_kind : (o : Outcome Bool) (b : Bool) → Ok b ≡ kind_answer o → o ≡ accepted b
told_kind (accepted s) b e = cc
told_kind (refused q) b e = let w : ◌≡◌ {A = ℕ} 0 1 = cc in absurd (omega arith)

kind_refusal : (o : Outcome Bool) (q : Refusal) → Err q ≡ kind_answer o → o ≡ refused q
kind_refusal (accepted s) q e = let w : ◌≡◌ {A = ℕ} 0 1 = cc in absurd (omega arith)
kind_refusal (refused p) q e = cc

module _ (t : List ℕ) {k : Result Bool Refusal} (e : k ≡ kind_answer (kind_of (first_line t))) where
  pub head_refused : (q : Refusal) → k ≡ Err q → HeadIs t (Err q)
  head_refused q f = record {
    kind = λ h e. let w : ◌≡◌ {A = ℕ} 0 1 = cc in absurd (omega arith);
    yes = λ h e. let w : ◌≡◌ {A = ℕ} 0 1 = cc in absurd (omega arith);
    no = λ p i l. let j : q ≡ p = cc in then_refused (kind_of (first_line t)) (after_kind t l) (kind_refusal (kind_of (first_line t)) q (sym f ∙ e)) ∙ ap refused j;
  }

  pub head_read : (symmetric : Bool) {r : Result Head Refusal} → k ≡ Ok symmetric → SizeLineIs t symmetric r → HeadIs t r
  head_read symmetric {r} f s =
      let o : kind_of (first_line t) ≡ accepted symmetric = told_kind (kind_of (first_line t)) symmetric (sym f ∙ e) in
      record {
        kind = λ h i. o ∙ ap accepted (sym (s.kind h i));
        yes = s.yes;
        no = λ q i l. then_accepted (kind_of (first_line t)) (after_kind t l) o ∙ then_refused (sizes_in (data_of t)) (after_sizes t l symmetric) (s.no q i);
      }
