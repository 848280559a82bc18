-- What the definitions say: `findOf` finds the digits that give a value where there are any, `writeOf` the possible power nearest zero, and what was written is read as the value.
-- Assumes nothing.
use mathlib.Core.Path.{◌≡◌, refl, sym, ap, ◌∙◌, subst}
use mathlib.Core.Bool.{Bool, true, false}
use mathlib.Core.Logic.{◌⊎◌, inl, inr}
use Prim.Native.Nat.{ℕ, zero, suc, ◌+◌, ◌^◌, ◌≤◌, ◌<◌}
use native.Mathlib.Nat.{eq-or-lt_of_le}
use native.Mathlib.Omega.{arith}
use lib.Dec.{T}
use lib.Ieee.{Float, binary64, fits}
use Rattle.std.specs.Prelude.{Option, Some, None}
use Rattle.decimal.specs.Decimal.{value_of, plus, pick_found, first_of, gives, find_of, number_of, attempt_of, or_else, write_from, write_of}
use Rattle.decimal.specs.Theorem.{No, Nearest}
use Rattle.decimal.proofs.Order.{value_plus, value_fits, same}

zero_one : ◌≡◌ {A = ℕ} 0 1 → ⊥
zero_one z = omega arith

-- ---- the first that passes a test

pub record First (count : ℕ) (test : ℕ → Bool) (i m : ℕ) : Type 0 where
  pub from : i ≤ m
  pub below : m < i + count
  pub passes : test m ≡ true
  pub before : (k : ℕ) → i ≤ k → k < m → test k ≡ false

pub is_first : (count : ℕ) (test : ℕ → Bool) (i m : ℕ) → first_of count test i ≡ Some m → First count test i m
unfolding first_of
is_first zero test i m e = absurd (let z : ◌≡◌ {A = ℕ} 0 1 = cc in zero_one z)
is_first (suc count) test i m e = go (test i) refl e (λ (h : first_of count test (i + 1) ≡ Some m). is_first count test (i + 1) m h)
  where
    go : (b : Bool) → test i ≡ b → pick_found b (Some i) (first_of count test (i + 1)) ≡ Some m → (first_of count test (i + 1) ≡ Some m → First count test (i + 1) m) → First (suc count) test i m
    go true t h on =
        let g : i ≡ m = cc in
        record { from = omega arith; below = omega arith; passes = ap test (sym g) ∙ t; before = λ (k : ℕ) (a : i ≤ k) (b : k < m). absurd (none k g a b) }
      where
        none : (k : ℕ) → i ≡ m → i ≤ k → k < m → ⊥
        none k g a b = omega arith
    go false t h on =
        let r = on h in
        record {
          from = omega (arith, r.from);
          below = omega (arith, r.below);
          passes = r.passes;
          before = λ (k : ℕ) (a : i ≤ k) (b : k < m). elim (eq-or-lt_of_le a) [ inl g ↦ ap test (sym g) ∙ t | inr l ↦ r.before k (omega arith) b ];
        }

pub is_none : (count : ℕ) (test : ℕ → Bool) (i : ℕ) → first_of count test i ≡ None → (k : ℕ) → i ≤ k → k < i + count → test k ≡ false
unfolding first_of
is_none zero test i e k a b = absurd (none a b)
  where
    none : i ≤ k → k < i + 0 → ⊥
    none a b = omega arith
is_none (suc count) test i e k a b = go (test i) refl e (λ (h : first_of count test (i + 1) ≡ None) (l : i < k). is_none count test (i + 1) h k (omega arith) (omega arith))
  where
    go : (t : Bool) → test i ≡ t → pick_found t (Some i) (first_of count test (i + 1)) ≡ None → (first_of count test (i + 1) ≡ None → i < k → test k ≡ false) → test k ≡ false
    go true t h on = absurd (let z : ◌≡◌ {A = ℕ} 0 1 = cc in zero_one z)
    go false t h on = elim (eq-or-lt_of_le a) [ inl g ↦ ap test (sym g) ∙ t | inr l ↦ on h l ]

-- ---- `findOf`: sound, complete, and the value itself where it has no minus sign

module _ (v : Float) (n : Bool) (p : ℕ) where
  pub find_sound : (m : ℕ) → find_of v n p ≡ Some m → (m < 10 ^ 15) × (gives v n p m ≡ true)
  find_sound m e = let r = is_first (10 ^ 15) (gives v n p) 0 m e in (omega (arith, r.below), r.passes)

  pub find_complete : find_of v n p ≡ None → (k : ℕ) → k < 10 ^ 15 → gives v n p k ≡ false
  find_complete e k h = is_none (10 ^ 15) (gives v n p) 0 e k (omega arith) (omega arith)

  pub gives_it : (m : ℕ) → T (fits binary64 v) → T (plus v) → gives v n p m ≡ true → value_of m n p ≡ v
  gives_it m F P g = same binary64 (value_of m n p) v (value_fits m n p) F (value_plus m n p) P g

-- ---- `writeOf`

triples : {a b : ℕ × Bool × ℕ} → Some a ≡ Some b → (a.0 ≡ b.0) × (a.1 ≡ b.1) × (a.2 ≡ b.2)
triples {a} {b} e = let t : a ≡ b = cc in (ap (λ (x : ℕ × Bool × ℕ). x.0) t, ap (λ (x : ℕ × Bool × ℕ). x.1) t, ap (λ (x : ℕ × Bool × ℕ). x.2) t)

number_cases : (x y : Option ℕ) (p m : ℕ) (n : Bool) (q : ℕ) → number_of x y p ≡ Some (m, n, q)
    → ((x ≡ Some m) × (n ≡ false) × (p ≡ q)) ⊎ ((y ≡ Some m) × (n ≡ true) × (p ≡ q))
number_cases (Some a) y p m n q e = let t = triples e in inl (ap Some t.0, sym t.1, t.2)
number_cases None (Some b) p m n q e = let t = triples e in inr (ap Some t.0, sym t.1, t.2)
number_cases None None p m n q e = absurd (let z : ◌≡◌ {A = ℕ} 0 1 = cc in zero_one z)

refused_cases : (x y : Option ℕ) (p : ℕ) → number_of x y p ≡ None → (x ≡ None) × (y ≡ None)
refused_cases (Some a) y p e = absurd (let z : ◌≡◌ {A = ℕ} 0 1 = cc in zero_one z)
refused_cases None (Some b) p e = absurd (let z : ◌≡◌ {A = ℕ} 0 1 = cc in zero_one z)
refused_cases None None p e = (refl, refl)

attempt_none : (v : Float) (p : ℕ) → attempt_of v p ≡ None → No v p
attempt_none v p e false k h = find_complete v false p (refused_cases (find_of v false p) (find_of v true p) p e).0 k h
attempt_none v p e true k h = find_complete v true p (refused_cases (find_of v false p) (find_of v true p) p e).1 k h

attempt_some : (v : Float) (p m : ℕ) (n : Bool) (q : ℕ) → attempt_of v p ≡ Some (m, n, q) → (p ≡ q) × (m < 10 ^ 15) × (gives v n q m ≡ true)
attempt_some v p m n q e =
    elim (number_cases (find_of v false p) (find_of v true p) p m n q e) [
      | inl c ↦ let r = find_sound v false p m c.0 in (c.2, r.0, ap (λ (s : Bool). gives v s q m) c.1 ∙ ap (λ (j : ℕ). gives v false j m) (sym c.2) ∙ r.1)
      | inr c ↦ let r = find_sound v true p m c.0 in (c.2, r.0, ap (λ (s : Bool). gives v s q m) c.1 ∙ ap (λ (j : ℕ). gives v true j m) (sym c.2) ∙ r.1)
    ]

from_nearest : (count : ℕ) (v : Float) (p m : ℕ) (n : Bool) (q : ℕ) → p + count ≡ 23 → ((j : ℕ) → j < p → No v j) → write_from count v p ≡ Some (m, n, q) → Nearest v m n q
unfolding write_from
from_nearest zero v p m n q c f e = absurd (let z : ◌≡◌ {A = ℕ} 0 1 = cc in zero_one z)
from_nearest (suc count) v p m n q c f e =
    go (attempt_of v p) refl e (λ (g : (j : ℕ) → j < p + 1 → No v j) (h : write_from count v (p + 1) ≡ Some (m, n, q)). from_nearest count v (p + 1) m n q (omega arith) g h)
  where
    go : (w : Option (ℕ × Bool × ℕ)) → attempt_of v p ≡ w → or_else w (write_from count v (p + 1)) ≡ Some (m, n, q)
        → (((j : ℕ) → j < p + 1 → No v j) → write_from count v (p + 1) ≡ Some (m, n, q) → Nearest v m n q) → Nearest v m n q
    go (Some (a, s, j)) t h rest =
        let r = attempt_some v p m n q (t ∙ h) in
        record { digits = r.1; power = omega (arith, r.0); value = r.2; nearer = λ (i : ℕ) (l : i < q). f i (omega (arith, r.0)) }
    go None t h rest = rest (on (attempt_none v p t)) h
      where
        on : No v p → (j : ℕ) → j < p + 1 → No v j
        on g j l =
            let a : j ≤ p = omega arith in
            elim (eq-or-lt_of_le a) [ inl i ↦ subst (λ (x : ℕ). No v x) (sym i) g | inr i ↦ f j i ]

pub write_nearest : (v : Float) (m : ℕ) (n : Bool) (q : ℕ) → write_of v ≡ Some (m, n, q) → Nearest v m n q
write_nearest v m n q e = from_nearest 23 v 0 m n q refl (λ (j : ℕ) (l : j < 0). absurd (none j l)) e
  where
    none : (j : ℕ) → j < 0 → ⊥
    none j l = omega arith

from_none : (count : ℕ) (v : Float) (p : ℕ) → write_from count v p ≡ None → (j : ℕ) → p ≤ j → j < p + count → No v j
unfolding write_from
from_none zero v p e j a b = absurd (none a b)
  where
    none : p ≤ j → j < p + 0 → ⊥
    none a b = omega arith
from_none (suc count) v p e j a b = go (attempt_of v p) refl e (λ (h : write_from count v (p + 1) ≡ None) (l : p < j). from_none count v (p + 1) h j (omega arith) (omega arith))
  where
    go : (w : Option (ℕ × Bool × ℕ)) → attempt_of v p ≡ w → or_else w (write_from count v (p + 1)) ≡ None → (write_from count v (p + 1) ≡ None → p < j → No v j) → No v j
    go (Some (m, s, i)) t h rest = absurd (let z : ◌≡◌ {A = ℕ} 0 1 = cc in zero_one z)
    go None t h rest = elim (eq-or-lt_of_le a) [
      | inl i ↦ subst (λ (x : ℕ). No v x) i (attempt_none v p t)
      | inr i ↦ rest h i
    ]

-- A value is refused only if no number of the form gives it.
pub write_refused : (v : Float) → write_of v ≡ None → (j : ℕ) → j ≤ 22 → No v j
write_refused v e j h = from_none 23 v 0 e j (omega arith) (omega arith)

-- Reading what was written gives the value.
pub round_trip : (v : Float) (m : ℕ) (n : Bool) (q : ℕ) → T (fits binary64 v) → T (plus v) → write_of v ≡ Some (m, n, q) → value_of m n q ≡ v
round_trip v m n q F P e = gives_it v n q m F P (write_nearest v m n q e).value
