-- What is written is read as it was: digits, a number with its sign and power, and a value. Assumes nothing.
use mathlib.Core.Path.{◌≡◌, refl, sym, ap, ◌∙◌}
use mathlib.Core.Bool.{Bool, true, false, not, cond, ◌&&◌, ◌||◌, false≢true}
use mathlib.Core.List.{List, [], ◌∷◌, ◌++◌, append-nil}
use mathlib.Core.Logic.{◌⊎◌, inl, inr, ⊎_elim}
use Prim.Native.Nat.{ℕ, zero, suc, ◌+◌, ◌-◌, ◌*◌, ◌/◌, ◌%◌, ◌^◌, ◌≤◌, ◌<◌}
use native.Mathlib.Nat.{suc-add}
use native.Mathlib.Omega.{arith}
use lib.Dec.{eqb, ltb, leb}
use lib.ListN.{length, take, drop, get_or, length-append, drop_of_length-le}
use lib.Seq.{take-append_seam, drop-append-add, take_all}
use lib.Ieee.{Float, eq}
use borrow.Author.Tests.{lt-ltb, le-ltb, leb-true, ne_eqb}
use Rattle.store.proofs.store.Region.{le_or_lt}
use Rattle.store.proofs.store.Each.{both_l, both_r}
use Rattle.std.specs.Prelude.{Option, Some, None}
use Rattle.decimal.specs.Decimal.{value_of, signed_of, is_minus, magnitude_of, write_of}
use Rattle.decimal.proofs.Laws.{write_nearest}
use Rattle.decimal.proofs.Signs.{signed_trip}
use Rattle.decimal_text.specs.Field.{is_digit, all_digits, number_from, number_of, is_number, place_of, starts_minus, sign_of, unsigned, head_of, has_power, power_of, whole_of, fraction_of, both_of, pick_reading, shifted_of, form_of, value_in}
use Rattle.decimal_text.specs.Figures.{figures_of, figures, sign_text, power_text, number_text, text_of, value_text}
use Rattle.decimal_text.proofs.Digits.{is_digit_lem, digits_append, number_append}
use Rattle.decimal_text.proofs.Value.{scaled_in}

-- ---- the digits of a number are digits, and give it

figures_digits : (k n : ℕ) → all_digits (figures_of k n) ≡ true
unfolding figures_of all_digits
figures_digits zero n = ap (λ (b : Bool). b && true) (is_digit_lem (n % 10 + 48) (omega arith) (omega arith))
figures_digits (suc k) n =
    ⊎_elim
    (λ (h : 10 ≤ n).
    ap (λ (b : Bool). all_digits (cond b ((n + 48) ∷ []) (figures_of k (n / 10) ++ ((n % 10 + 48) ∷ [])))) (le-ltb n 10 h)
    ∙ digits_append (figures_of k (n / 10)) ((n % 10 + 48) ∷ [])
    ∙ ap (λ (b : Bool). b && all_digits ((n % 10 + 48) ∷ [])) (figures_digits k (n / 10))
    ∙ ap (λ (b : Bool). b && true) (is_digit_lem (n % 10 + 48) (omega arith) (omega arith)))
    (λ (h : n < 10).
    ap (λ (b : Bool). all_digits (cond b ((n + 48) ∷ []) (figures_of k (n / 10) ++ ((n % 10 + 48) ∷ [])))) (lt-ltb n 10 h)
    ∙ ap (λ (b : Bool). b && true) (is_digit_lem (n + 48) (omega arith) (omega arith)))
    (le_or_lt 10 n)

figures_some : (k n : ℕ) → 0 < length (figures_of k n)
unfolding figures_of
figures_some zero n = omega arith
figures_some (suc k) n = go (ltb n 10)
  where
    go : (b : Bool) → 0 < length (cond b ((n + 48) ∷ []) (figures_of k (n / 10) ++ ((n % 10 + 48) ∷ [])))
    go true = omega arith
    go false = omega (arith, length-append (figures_of k (n / 10)) ((n % 10 + 48) ∷ []))

pub figures_number : (n : ℕ) → is_number (figures n) ≡ true
figures_number n = ap (λ (b : Bool). b && all_digits (figures n)) (lt-ltb 0 (length (figures n)) (figures_some 19 n)) ∙ figures_digits 19 n

ten_more : (k : ℕ) → 10 ^ (suc k + 1) ≡ 10 * 10 ^ (k + 1)
ten_more k = ap (λ (i : ℕ). 10 ^ i) (suc-add k 1) ∙ omega arith

figures_value : (k n : ℕ) → n < 10 ^ (k + 1) → number_of (figures_of k n) ≡ n
unfolding figures_of number_from
figures_value zero n h = omega (arith, h)
figures_value (suc k) n h =
    ⊎_elim
    (λ (g : 10 ≤ n).
    let f : n / 10 < 10 ^ (k + 1) = omega (arith, ten_more k, h) in
    ap (λ (b : Bool). number_of (cond b ((n + 48) ∷ []) (figures_of k (n / 10) ++ ((n % 10 + 48) ∷ [])))) (le-ltb n 10 g)
    ∙ number_append 0 (figures_of k (n / 10)) ((n % 10 + 48) ∷ [])
    ∙ ap (λ (i : ℕ). i * 10 + (n % 10 + 48 - 48)) (figures_value k (n / 10) f)
    ∙ omega arith)
    (λ (g : n < 10).
    ap (λ (b : Bool). number_of (cond b ((n + 48) ∷ []) (figures_of k (n / 10) ++ ((n % 10 + 48) ∷ [])))) (lt-ltb n 10 g)
    ∙ omega arith)
    (le_or_lt 10 n)

pub figures_read : (n : ℕ) → n < 10 ^ 20 → number_of (figures n) ≡ n
figures_read n h = figures_value 19 n h

-- ---- digits have no point, no e, and no sign

away : (x a : ℕ) → is_digit x ≡ true → (a < 48) ⊎ (57 < a) → eqb x a ≡ false
away x a h far = ne_eqb x a (λ (e : x ≡ a). clash (leb-true 48 x (both_l (leb 48 x) (leb x 57) h)) (leb-true x 57 (both_r (leb 48 x) (leb x 57) h)) e far)
  where
    clash : 48 ≤ x → x ≤ 57 → x ≡ a → (a < 48) ⊎ (57 < a) → ⊥
    clash p q e (inl r) = omega arith
    clash p q e (inr r) = omega arith

-- a byte that is no digit is first found behind the digits
digits_place : (a b : ℕ) (d t : List ℕ) → (a < 48) ⊎ (57 < a) → (b < 48) ⊎ (57 < b) → all_digits d ≡ true → place_of a b (d ++ t) ≡ length d + place_of a b t
unfolding place_of all_digits
digits_place a b [] t p q h = omega arith
digits_place a b (x ∷ d) t p q h =
    let f : is_digit x ≡ true = both_l (is_digit x) (all_digits d) h in
    ap (λ (c : Bool). cond (c || eqb x b) 0 (suc (place_of a b (d ++ t)))) (away x a f p)
    ∙ ap (λ (c : Bool). cond c 0 (suc (place_of a b (d ++ t)))) (away x b f q)
    ∙ ap suc (digits_place a b d t p q (both_r (is_digit x) (all_digits d) h))
    ∙ omega arith

-- the first byte of digits is no sign
first_digit : (d t : List ℕ) → is_number d ≡ true → is_digit (get_or (d ++ t) 0 0) ≡ true
unfolding all_digits
first_digit [] t h = absurd (false≢true h)
first_digit (x ∷ d) t h = both_l (is_digit x) (all_digits d) (both_r (ltb 0 (length (x ∷ d))) (is_digit x && all_digits d) h)

module _ (d t : List ℕ) (h : is_number d ≡ true) where
  starts_plain : starts_minus (d ++ t) ≡ false
  starts_plain = away (get_or (d ++ t) 0 0) 45 (first_digit d t h) (inl (omega arith))

  sign_plain : sign_of (d ++ t) ≡ 0
  sign_plain =
      ap (λ (b : Bool). cond (b || starts_minus (d ++ t)) 1 0) (away (get_or (d ++ t) 0 0) 43 (first_digit d t h) (inl (omega arith)))
      ∙ ap (λ (b : Bool). cond b 1 0) starts_plain

  pub minus_read : (minus : Bool) → starts_minus (sign_text minus ++ d ++ t) ≡ minus
  minus_read true = refl
  minus_read false = starts_plain

  pub sign_read : (minus : Bool) → unsigned (sign_text minus ++ d ++ t) ≡ d ++ t
  sign_read true = refl
  sign_read false = ap (λ (k : ℕ). drop k (d ++ t)) sign_plain

-- ---- digits without a point

module _ (d : List ℕ) (h : all_digits d ≡ true) where
  point_end : place_of 46 46 d ≡ length d
  unfolding place_of
  point_end =
      ap (place_of 46 46) (sym (append-nil d)) ∙ digits_place 46 46 d [] (inl (omega arith)) (inl (omega arith)) h ∙ omega arith

  fraction_nil : fraction_of d ≡ []
  fraction_nil = let e : length d ≤ place_of 46 46 d + 1 = omega (arith, point_end) in drop_of_length-le d e

  both_same : both_of d ≡ d
  both_same = ap (λ (l : List ℕ). whole_of d ++ l) fraction_nil ∙ append-nil (whole_of d) ∙ take_all (place_of 46 46 d) d (omega (arith, point_end))

-- ---- a number with its power

-- what digits and a power that was split off say
form_read : (minus : Bool) (d : List ℕ) (has : Bool) (p : List ℕ) → is_number d ≡ true → (not has || is_number (unsigned p)) ≡ true → form_of minus d has p ≡ shifted_of minus (number_of d) 0 (starts_minus p) (number_of (unsigned p))
form_read minus d has p h g =
    let a = both_r (ltb 0 (length d)) (all_digits d) h in
    let b : both_of d ≡ d = both_same d a in
    let c : fraction_of d ≡ [] = fraction_nil d a in
    ap (λ (l : List ℕ). pick_reading (is_number l && (not has || is_number (unsigned p))) (shifted_of minus (number_of l) (length (fraction_of d)) (starts_minus p) (number_of (unsigned p))) None) b
    ∙ ap (λ (l : List ℕ). pick_reading (is_number d && (not has || is_number (unsigned p))) (shifted_of minus (number_of d) (length l) (starts_minus p) (number_of (unsigned p))) None) c
    ∙ ap (λ (x : Bool). pick_reading (x && (not has || is_number (unsigned p))) (shifted_of minus (number_of d) 0 (starts_minus p) (number_of (unsigned p))) None) h
    ∙ ap (λ (x : Bool). pick_reading x (shifted_of minus (number_of d) 0 (starts_minus p) (number_of (unsigned p))) None) g

module _ (d : List ℕ) (h : is_number d ≡ true) where
  private_digits : all_digits d ≡ true
  private_digits = both_r (ltb 0 (length d)) (all_digits d) h

  mark_none : place_of 101 69 (d ++ []) ≡ length d
  unfolding place_of
  mark_none = digits_place 101 69 d [] (inr (omega arith)) (inr (omega arith)) private_digits ∙ omega arith

  mark_some : (p : List ℕ) → place_of 101 69 (d ++ 101 ∷ p) ≡ length d
  unfolding place_of
  mark_some p = digits_place 101 69 d (101 ∷ p) (inr (omega arith)) (inr (omega arith)) private_digits ∙ omega arith

  -- no power
  pub plain_read : (minus : Bool) → form_of minus (head_of (d ++ [])) (has_power (d ++ [])) (power_of (d ++ [])) ≡ shifted_of minus (number_of d) 0 false 0
  unfolding number_from
  plain_read minus =
      let l : length (d ++ []) ≡ length d = ap length (append-nil d) in
      let a : head_of (d ++ []) ≡ d = ap (λ (k : ℕ). take k (d ++ [])) mark_none ∙ take-append_seam d [] in
      let b : has_power (d ++ []) ≡ false = le-ltb (place_of 101 69 (d ++ [])) (length (d ++ [])) (omega (arith, mark_none)) in
      let c : power_of (d ++ []) ≡ [] = drop_of_length-le (d ++ []) {i = place_of 101 69 (d ++ []) + 1} (omega (arith, mark_none)) in
      ap (λ (k : List ℕ). form_of minus k (has_power (d ++ [])) (power_of (d ++ []))) a
      ∙ ap (λ (k : Bool). form_of minus d k (power_of (d ++ []))) b
      ∙ ap (form_of minus d false) c
      ∙ form_read minus d false [] h refl

  -- an e and a power
  pub power_read : (minus : Bool) (p : List ℕ) → is_number (unsigned p) ≡ true → form_of minus (head_of (d ++ 101 ∷ p)) (has_power (d ++ 101 ∷ p)) (power_of (d ++ 101 ∷ p)) ≡ shifted_of minus (number_of d) 0 (starts_minus p) (number_of (unsigned p))
  power_read minus p g =
      let l = length-append d (101 ∷ p) in
      let a : head_of (d ++ 101 ∷ p) ≡ d = ap (λ (k : ℕ). take k (d ++ 101 ∷ p)) (mark_some p) ∙ take-append_seam d (101 ∷ p) in
      let b : has_power (d ++ 101 ∷ p) ≡ true = lt-ltb (place_of 101 69 (d ++ 101 ∷ p)) (length (d ++ 101 ∷ p)) (omega (arith, mark_some p, l)) in
      let c : power_of (d ++ 101 ∷ p) ≡ p = ap (λ (k : ℕ). drop (k + 1) (d ++ 101 ∷ p)) (mark_some p) ∙ drop-append-add d (101 ∷ p) 1 in
      ap (λ (k : List ℕ). form_of minus k (has_power (d ++ 101 ∷ p)) (power_of (d ++ 101 ∷ p))) a
      ∙ ap (λ (k : Bool). form_of minus d k (power_of (d ++ 101 ∷ p))) b
      ∙ ap (form_of minus d true) c
      ∙ form_read minus d true p h g

-- ---- the value

scaled_plain : (minus : Bool) (m : ℕ) (negative : Bool) (power : ℕ) → m < 10 ^ 15 → power ≤ 22 → shifted_of minus m 0 negative power ≡ Some (signed_of minus (value_of m negative power))
scaled_plain minus m true zero h g = sym (scaled_in minus m 0 0 h refl (omega arith) refl refl)
scaled_plain minus m true (suc power) h g = sym (scaled_in minus m 0 (0 + suc power) {d = suc power} {b = true} h (omega arith) g (lt-ltb 0 (0 + suc power) (omega arith)) refl)
scaled_plain minus m false power h g = sym (scaled_in minus m power (0 + 0) {d = power} {b = false} h (omega arith) g (le-ltb power (0 + 0) (omega arith)) refl)

power_shown : (negative : Bool) (power : ℕ) → power_text negative (suc power) ≡ 101 ∷ sign_text negative ++ figures (suc power)
power_shown negative power = ap (λ (b : Bool). cond b [] (101 ∷ sign_text negative ++ figures (suc power))) (ne_eqb (suc power) 0 (λ (e : suc power ≡ 0). none power e))
  where
    none : (n : ℕ) → suc n ≡ 0 → ⊥
    none n e = omega arith

-- A number that is written with its sign and power is read as its value.
pub number_trip : (minus : Bool) (m : ℕ) (negative : Bool) (power : ℕ) → m < 10 ^ 15 → power ≤ 22 → value_in (number_text minus m negative power) ≡ Some (signed_of minus (value_of m negative power))
number_trip minus m negative power h g =
    let d = figures m in
    let t = power_text negative power in
    let n = figures_number m in
    ap (λ (b : Bool). form_of b (head_of (unsigned (sign_text minus ++ d ++ t))) (has_power (unsigned (sign_text minus ++ d ++ t))) (power_of (unsigned (sign_text minus ++ d ++ t)))) (minus_read d t n minus)
    ∙ ap (λ (l : List ℕ). form_of minus (head_of l) (has_power l) (power_of l)) (sign_read d t n minus)
    ∙ tail power g
  where
    tail : (power : ℕ) → power ≤ 22 → form_of minus (head_of (figures m ++ power_text negative power)) (has_power (figures m ++ power_text negative power)) (power_of (figures m ++ power_text negative power)) ≡ Some (signed_of minus (value_of m negative power))
    tail zero g =
        plain_read (figures m) (figures_number m) minus
        ∙ ap (λ (k : ℕ). shifted_of minus k 0 false 0) (figures_read m (omega arith))
        ∙ scaled_plain minus m false 0 h (omega arith)
        ∙ zero_power negative
      where
        zero_power : (b : Bool) → Some (signed_of minus (value_of m false 0)) ≡ Some (signed_of minus (value_of m b 0))
        zero_power true = refl
        zero_power false = refl
    tail (suc power) g =
        let q = figures (suc power) in
        let e : sign_text negative ++ q ≡ sign_text negative ++ q ++ [] = sym (append-nil (sign_text negative ++ q)) in
        let i = figures_number (suc power) in
        let u : unsigned (sign_text negative ++ q) ≡ q = ap unsigned e ∙ sign_read q [] i negative ∙ append-nil q in
        let s : starts_minus (sign_text negative ++ q) ≡ negative = ap starts_minus e ∙ minus_read q [] i negative in
        ap (λ (t : List ℕ). form_of minus (head_of (figures m ++ t)) (has_power (figures m ++ t)) (power_of (figures m ++ t))) (power_shown negative power)
        ∙ power_read (figures m) (figures_number m) minus (sign_text negative ++ q) (ap is_number u ∙ i)
        ∙ ap (λ (k : ℕ). shifted_of minus k 0 (starts_minus (sign_text negative ++ q)) (number_of (unsigned (sign_text negative ++ q)))) (figures_read m (omega arith))
        ∙ ap (λ (b : Bool). shifted_of minus m 0 b (number_of (unsigned (sign_text negative ++ q)))) s
        ∙ ap (λ (l : List ℕ). shifted_of minus m 0 negative (number_of l)) u
        ∙ ap (shifted_of minus m 0 negative) (figures_read (suc power) (omega arith))
        ∙ scaled_plain minus m negative (suc power) h g

-- What is written of a value is in the grammar, and is read as a value that equals it: itself, but for +0 in the place of -0.
pub value_trip : (v : Float) (m : ℕ) (n : Bool) (q : ℕ) → write_of (magnitude_of v) ≡ Some (m, n, q)
    → (value_in (value_text v) ≡ Some (signed_of (is_minus v) (value_of m n q))) × (eq (signed_of (is_minus v) (value_of m n q)) v ≡ true)
value_trip v m n q e =
    let w = write_nearest (magnitude_of v) m n q e in
    (ap (λ (x : Option (ℕ × Bool × ℕ)). value_in (text_of (is_minus v) x)) e ∙ number_trip (is_minus v) m n q w.digits w.power, signed_trip v m n q e)
