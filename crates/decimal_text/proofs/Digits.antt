-- Places of bytes, and digits read one after the other. Assumes nothing.
use mathlib.Core.Path.{◌≡◌, refl, sym, ap, ◌∙◌}
use mathlib.Core.Bool.{Bool, true, false, cond, ◌&&◌, ◌||◌}
use mathlib.Core.List.{List, [], ◌∷◌, ◌++◌}
use mathlib.Core.Logic.{⊎_elim}
use Prim.Native.Nat.{ℕ, suc, ◌+◌, ◌-◌, ◌*◌, ◌^◌, ◌≤◌, ◌<◌, min}
use native.Mathlib.Numerals.{add-one}
use native.Mathlib.Omega.{arith}
use lib.Dec.{eqb, leb}
use lib.ListN.{length, take, drop, get_or, drop_of_length-le, length-drop}
use lib.Seq.{drop-cons, take_all}
use borrow.Author.Tests.{le-leb}
use Rattle.store.proofs.store.Region.{le_or_lt}
use Rattle.std.specs.Prelude.{Some, None}
use Rattle.decimal_text.specs.Field.{is_digit, all_digits, number_from, place_of, pick_digits, digits_from}

-- ---- places

pub place_within : (a b : ℕ) (l : List ℕ) → place_of a b l ≤ length l
unfolding place_of
place_within a b [] = omega arith
place_within a b (x ∷ l) = go (eqb x a || eqb x b) (place_within a b l)
  where
    go : (t : Bool) → place_of a b l ≤ length l → cond t 0 (suc (place_of a b l)) ≤ suc (length l)
    go true h = omega arith
    go false h = omega arith

module _ (a b : ℕ) (s : List ℕ) (i : ℕ) (inv : i + place_of a b (drop i s) ≡ place_of a b s) where
  pub place_here : i < length s → (eqb (get_or s i 0) a || eqb (get_or s i 0) b) ≡ true → i ≡ place_of a b s
  unfolding place_of
  place_here h t =
      let e : place_of a b (drop i s) ≡ 0 = ap (place_of a b) (drop-cons s i 0 h) ∙ ap (λ (x : Bool). cond x 0 (suc (place_of a b (drop (suc i) s)))) t in
      omega arith

  pub place_on : i < length s → (eqb (get_or s i 0) a || eqb (get_or s i 0) b) ≡ false → i + 1 + place_of a b (drop (i + 1) s) ≡ place_of a b s
  unfolding place_of
  place_on h t =
      let e : place_of a b (drop i s) ≡ suc (place_of a b (drop (suc i) s)) = ap (place_of a b) (drop-cons s i 0 h) ∙ ap (λ (x : Bool). cond x 0 (suc (place_of a b (drop (suc i) s)))) t in
      let f : place_of a b (drop (i + 1) s) ≡ place_of a b (drop (suc i) s) = ap (λ (k : ℕ). place_of a b (drop k s)) (add-one i) in
      omega arith

  pub place_none : length s ≤ i → i ≡ place_of a b s
  unfolding place_of
  place_none h =
      let e : place_of a b (drop i s) ≡ 0 = ap (place_of a b) (drop_of_length-le s h) in
      omega arith

-- what follows a place is what follows it within the list
pub drop_past : (p : ℕ) (l : List ℕ) → drop (min (p + 1) (length l)) l ≡ drop (p + 1) l
drop_past p l =
    ⊎_elim
    (λ (h : p + 1 ≤ length l). let e : min (p + 1) (length l) ≡ p + 1 = omega arith in ap (λ (k : ℕ). drop k l) e)
    (λ (h : length l < p + 1).
    let e : length l ≤ min (p + 1) (length l) = omega arith in
    let f : length l ≤ p + 1 = omega arith in
    drop_of_length-le l e ∙ sym (drop_of_length-le l f))
    (le_or_lt (p + 1) (length l))

-- the part of a list from a place to its end
pub tail_part : (a : ℕ) (l : List ℕ) → take (length l - a) (drop a l) ≡ drop a l
tail_part a l = take_all (length l - a) (drop a l) (omega (arith, length-drop a l))

-- ---- digits

and_false : (x : Bool) → (x && false) ≡ false
and_false true = refl
and_false false = refl

pub is_digit_lem : (b : ℕ) → 48 ≤ b → b ≤ 57 → is_digit b ≡ true
is_digit_lem b h k = ap (λ (x : Bool). x && leb b 57) (le-leb 48 b h) ∙ le-leb b 57 k

-- more digits make no smaller number
pub number_up : (n : ℕ) (l : List ℕ) → n ≤ number_from n l
unfolding number_from
number_up n [] = omega arith
number_up n (b ∷ l) = omega (arith, number_up (n * 10 + (b - 48)) l)

-- a number that is cut at 10^19 on the way is cut at the end
pub number_cut : (n : ℕ) (l : List ℕ) → min (number_from (min n (10 ^ 19)) l) (10 ^ 19) ≡ min (number_from n l) (10 ^ 19)
number_cut n l =
    ⊎_elim
    (λ (h : n ≤ 10 ^ 19). let e : min n (10 ^ 19) ≡ n = omega arith in ap (λ (k : ℕ). min (number_from k l) (10 ^ 19)) e)
    (λ (h : 10 ^ 19 < n).
    let a : 10 ^ 19 ≤ number_from (min n (10 ^ 19)) l = omega (arith, number_up (min n (10 ^ 19)) l) in
    let b : 10 ^ 19 ≤ number_from n l = omega (arith, number_up n l) in
    omega arith)
    (le_or_lt n (10 ^ 19))

pub digits_append : (k l : List ℕ) → all_digits (k ++ l) ≡ (all_digits k && all_digits l)
unfolding all_digits
digits_append [] l = refl
digits_append (b ∷ k) l = go (is_digit b) (digits_append k l)
  where
    go : (x : Bool) → all_digits (k ++ l) ≡ (all_digits k && all_digits l) → (x && all_digits (k ++ l)) ≡ ((x && all_digits k) && all_digits l)
    go true h = h
    go false h = refl

pub number_append : (n : ℕ) (k l : List ℕ) → number_from n (k ++ l) ≡ number_from (number_from n k) l
unfolding number_from
number_append n [] l = refl
number_append n (b ∷ k) l = number_append (n * 10 + (b - 48)) k l

module _ (n m : ℕ) (s : List ℕ) (i : ℕ) (inv : digits_from m (drop i s) ≡ digits_from n s) where
  pub digits_bad : i < length s → is_digit (get_or s i 0) ≡ false → None ≡ digits_from n s
  unfolding all_digits
  digits_bad h t =
      let e : all_digits (drop i s) ≡ false = ap all_digits (drop-cons s i 0 h) ∙ ap (λ (x : Bool). x && all_digits (drop (suc i) s)) t in
      sym (ap (λ (x : Bool). pick_digits x (Some (min (number_from m (drop i s)) (10 ^ 19))) None) e) ∙ inv

  pub digits_on : {k : ℕ} → i < length s → is_digit (get_or s i 0) ≡ true → k ≡ min (m * 10 + (get_or s i 0 - 48)) (10 ^ 19) → digits_from k (drop (i + 1) s) ≡ digits_from n s
  unfolding all_digits number_from
  digits_on {k} h t e =
      let r = drop (suc i) s in
      let d : drop i s ≡ get_or s i 0 ∷ r = drop-cons s i 0 h in
      ap (λ (j : ℕ). digits_from k (drop j s)) (add-one i)
      ∙ ap (λ (j : ℕ). pick_digits (all_digits r) (Some j) None) (ap (λ (j : ℕ). min (number_from j r) (10 ^ 19)) e ∙ number_cut (m * 10 + (get_or s i 0 - 48)) r)
      ∙ ap (λ (x : Bool). pick_digits (x && all_digits r) (Some (min (number_from (m * 10 + (get_or s i 0 - 48)) r) (10 ^ 19))) None) (sym t)
      ∙ ap (digits_from m) (sym d)
      ∙ inv

  pub digits_end : length s ≤ i → m ≤ 10 ^ 19 → Some m ≡ digits_from n s
  unfolding all_digits number_from
  digits_end h c =
      let e : m ≡ min m (10 ^ 19) = omega arith in
      ap Some e ∙ ap (digits_from m) (sym (drop_of_length-le s h)) ∙ inv
