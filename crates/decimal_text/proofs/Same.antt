-- Two digit strings compared from their last digits. Assumes nothing.
use mathlib.Core.Path.{◌≡◌, refl, sym, ap, ◌∙◌, subst}
use mathlib.Core.Bool.{Bool, true, false}
use mathlib.Core.List.{List, [], ◌∷◌}
use Prim.Native.Nat.{ℕ, zero, suc, ◌+◌, ◌-◌, ◌*◌, ◌≤◌, ◌<◌}
use native.Mathlib.Nat.{sub-zero}
use native.Mathlib.Omega.{arith}
use lib.Dec.{eqb, leb}
use lib.ListN.{length, take, get_or}
use lib.Seq.{take-suc, take-length}
use borrow.Author.Tests.{leb-true, eq-eqb, ne_eqb, eqb-true, eqb-false}
use Rattle.store.proofs.store.Each.{both_l, both_r}
use Rattle.decimal_text.specs.Field.{is_digit, all_digits, number_from, number_of}
use Rattle.decimal_text.specs.Contract.{DigitsTo, LastDigit}
use Rattle.decimal_text.proofs.Digits.{number_append}

-- each byte of digits is one
pub digit_at : (l : List ℕ) (i : ℕ) → all_digits l ≡ true → i < length l → is_digit (get_or l i 0) ≡ true
unfolding all_digits
digit_at [] i h k = absurd (none i k)
  where
    none : (i : ℕ) → i < 0 → ⊥
    none i k = omega arith
digit_at (b ∷ l) zero h k = both_l (is_digit b) (all_digits l) h
digit_at (b ∷ l) (suc i) h k = digit_at l i (both_r (is_digit b) (all_digits l) h) (omega arith)

pub digit_low : (b : ℕ) → is_digit b ≡ true → 48 ≤ b
digit_low b h = leb-true 48 b (both_l (leb 48 b) (leb b 57) h)

pub digit_high : (b : ℕ) → is_digit b ≡ true → b ≤ 57
digit_high b h = leb-true b 57 (both_r (leb 48 b) (leb b 57) h)

-- one digit more
appended : (l : List ℕ) (n : ℕ) → n < length l → number_of (take (suc n) l) ≡ number_of (take n l) * 10 + (get_or l n 0 - 48)
unfolding number_from
appended l n i = ap number_of (take-suc l n 0 i) ∙ number_append 0 (take n l) (get_or l n 0 ∷ [])

pub last_none : (l : List ℕ) (n : ℕ) → n ≡ 0 → LastDigit n l 0
unfolding number_from
last_none l n e = subst (λ (k : ℕ). LastDigit k l 0) (sym e) (record { small = omega arith; is = refl })

pub last_some : (l : List ℕ) (n : ℕ) {d : ℕ} → (n ≡ 0 → ⊥) → DigitsTo n l → d ≡ get_or l (n - 1) 0 - 48 → LastDigit n l d
last_some l zero h k e = absurd (h refl)
last_some l (suc n) {d} h k e =
    let i : n < length l = omega (arith, k.within) in
    let m : suc n - 1 ≡ n = omega arith in
    let f : d ≡ get_or l n 0 - 48 = e ∙ ap (λ (j : ℕ). get_or l j 0 - 48) m in
    record {
      small = omega (arith, f, digit_high (get_or l n 0) (digit_at l n k.digits i));
      is = appended l n i ∙ ap (λ (j : ℕ). number_of (take n l) * 10 + j) (sym f) ∙ ap (λ (j : ℕ). number_of (take j l) * 10 + d) (sym m);
    }

-- the first i digits of a and the first j of b write one number where a and b do, and the other way round
pub record SameTo (i j : ℕ) (a b : List ℕ) : Type 0 where
  pub is : eqb (number_of (take i a)) (number_of (take j b)) ≡ eqb (number_of a) (number_of b)

pub same_start : (a b : List ℕ) → SameTo (length a - 0) (length b - 0) a b
same_start a b = record { is = ap (λ (l : List ℕ). eqb (number_of l) (number_of (take (length b - 0) b))) (whole a) ∙ ap (λ (l : List ℕ). eqb (number_of a) (number_of l)) (whole b) }
  where
    whole : (l : List ℕ) → take (length l - 0) l ≡ l
    whole l = ap (λ (n : ℕ). take n l) (sub-zero (length l)) ∙ take-length l

-- with a last digit each
tens_apart : (x y d e : ℕ) → d < 10 → e < 10 → (d ≡ e → ⊥) → eqb (x * 10 + d) (y * 10 + e) ≡ false
tens_apart x y d e h k g = ne_eqb (x * 10 + d) (y * 10 + e) (λ (f : x * 10 + d ≡ y * 10 + e). g (omega arith))

tens_same : (x y d e : ℕ) → d ≡ e → eqb (x * 10 + d) (y * 10 + e) ≡ eqb x y
tens_same x y d e h = go (eqb x y) refl
  where
    go : (t : Bool) → eqb x y ≡ t → eqb (x * 10 + d) (y * 10 + e) ≡ eqb x y
    go true f = eq-eqb (x * 10 + d) (y * 10 + e) (omega (arith, eqb-true x y f, h)) ∙ sym f
    go false f = ne_eqb (x * 10 + d) (y * 10 + e) (λ (g : x * 10 + d ≡ y * 10 + e). eqb-false x y f (omega arith)) ∙ sym f

module _ {i j x y d e : ℕ} {a b : List ℕ} (s : SameTo i j a b) (f : x ≡ i) (g : y ≡ j) (first : LastDigit x a d) (second : LastDigit y b e) where
  p : LastDigit i a d
  p = subst (λ (n : ℕ). LastDigit n a d) f first

  q : LastDigit j b e
  q = subst (λ (n : ℕ). LastDigit n b e) g second

  shown : eqb (number_of (take (i - 1) a) * 10 + d) (number_of (take (j - 1) b) * 10 + e) ≡ eqb (number_of a) (number_of b)
  shown = ap (λ (x : ℕ). eqb x (number_of (take (j - 1) b) * 10 + e)) (sym p.is) ∙ ap (λ (x : ℕ). eqb (number_of (take i a)) x) (sym q.is) ∙ s.is

  pub same_no : (d ≡ e → ⊥) → false ≡ eqb (number_of a) (number_of b)
  same_no h = sym (tens_apart (number_of (take (i - 1) a)) (number_of (take (j - 1) b)) d e p.small q.small h) ∙ shown

  pub same_on : {k l : ℕ} → d ≡ e → k ≡ i - 1 → l ≡ j - 1 → SameTo k l a b
  same_on {k} {l} h f g = record {
    is = ap (λ (x : ℕ). eqb (number_of (take x a)) (number_of (take l b))) f ∙ ap (λ (x : ℕ). eqb (number_of (take (i - 1) a)) (number_of (take x b))) g
        ∙ sym (tens_same (number_of (take (i - 1) a)) (number_of (take (j - 1) b)) d e h) ∙ shown;
  }

pub same_yes : {i j : ℕ} {a b : List ℕ} → SameTo i j a b → i + j ≤ 0 → true ≡ eqb (number_of a) (number_of b)
unfolding number_from
same_yes {i} {j} {a} {b} s h =
    let e : i ≡ 0 = omega arith in
    let f : j ≡ 0 = omega arith in
    sym (ap (λ (x : ℕ). eqb (number_of (take x a)) (number_of (take j b))) e ∙ ap (λ (x : ℕ). eqb (number_of (take 0 a)) (number_of (take x b))) f) ∙ s.is
