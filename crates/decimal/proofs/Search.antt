-- The bisection, and what its end says of all numbers with at most 15 digits. Assumes nothing.
use mathlib.Core.Path.{◌≡◌, refl, sym, ap, ◌∙◌, subst}
use mathlib.Core.Bool.{Bool, true, false, ◌&&◌, false≢true, true≢false}
use mathlib.Core.Logic.{◌⊎◌, inl, inr, ⊎_elim}
use Prim.Native.Nat.{ℕ, zero, suc, zero-le, suc-le-suc, ◌+◌, ◌*◌, ◌^◌, ◌≤◌, ◌<◌}
use native.Mathlib.Nat.{eq-or-lt_of_le, le_antisymm, le_of_eq, mul-pos, lt_irrefl}
use native.Mathlib.Omega.{arith}
use borrow.Author.Tests.{ltb-true, ltb-false, eqb-true, eq-eqb, ne_eqb}
use lib.Dec.{T, ltb, eqb}
use lib.Ieee.{Float, nan, inf, fin, up, down, lt, eq, le}
use lib.Ieee.Fits.{down_pos}
use lib.Ieee.Positive.{through}
use Rattle.std.specs.Prelude.{Some, None}
use Rattle.decimal.specs.Decimal.{value_of, plus, pick_found, first_of, gives, find_of}
use Rattle.decimal.specs.Contract.{Reached}
use Rattle.decimal.proofs.Order.{value_plus, value_mono, le_lt, lt_or_eq, and_true}

-- ---- the bisection's invariant
pub record Between (v : Float) (negative : Bool) (power low high : ℕ) : Type 0 where
  pub order : low ≤ high
  pub within : high ≤ 10 ^ 15
  pub before : (k : ℕ) → k < low → lt (value_of k negative power) v ≡ true
  pub here : high < 10 ^ 15 → lt (value_of high negative power) v ≡ false

module _ {v : Float} {n : Bool} {p : ℕ} where
  pub between_start : Between v n p 0 1_000_000_000_000_000
  between_start = record {
    order = omega arith;
    within = omega arith;
    before = λ (k : ℕ) (h : k < 0). absurd (none k h);
    here = λ (h : 10 ^ 15 < 10 ^ 15). absurd (lt_irrefl (10 ^ 15) h);
  }
    where
      none : (k : ℕ) → k < 0 → ⊥
      none k h = omega arith

  pub between_up : {low high m : ℕ} {x : Float} → Between v n p low high → m < high → x ≡ value_of m n p → lt x v ≡ true → Between v n p (m + 1) high
  between_up {low} {high} {m} {x} b h e l = record {
    order = omega arith;
    within = b.within;
    before = λ (k : ℕ) (g : k < m + 1).
        let z : k ≤ m = omega arith in
        le_lt (value_of k n p) (value_of m n p) v (value_plus k n p) (value_plus m n p) (value_mono k m n p z) (ap (λ (y : Float). lt y v) (sym e) ∙ l);
    here = b.here;
  }

  pub between_down : {low high m : ℕ} {x : Float} → Between v n p low high → low ≤ m → m < high → x ≡ value_of m n p → lt x v ≡ false → Between v n p low m
  between_down {low} {high} {m} {x} b g h e l = record {
    order = g;
    within = omega (arith, b.within);
    before = b.before;
    here = λ (_ : m < 10 ^ 15). ap (λ (y : Float). lt y v) (sym e) ∙ l;
  }

  pub between_done : {low high : ℕ} → Between v n p low high → high ≤ low → Reached v n p low
  between_done {low} {high} b h =
      let e : high ≡ low = omega (arith, b.order) in
      record {
        within = omega (arith, b.order, b.within);
        before = b.before;
        here = subst (λ (m : ℕ). m < 10 ^ 15 → lt (value_of m n p) v ≡ false) e b.here;
      }

-- ---- below v, and at v

and_false : (a b : Bool) → a ≡ false → (a && b) ≡ false
and_false a b h = ap (λ (c : Bool). c && b) h

not_equal : (a b : ℕ) → ltb a b ≡ true → eqb a b ≡ false
not_equal a b h = ne_eqb a b (λ (e : a ≡ b). differ (ltb-true a b h) e)
  where
    differ : a < b → a ≡ b → ⊥
    differ g e = omega arith

-- what is below v is not v
lt_not_eq : (x v : Float) → T (plus x) → lt x v ≡ true → eq x v ≡ false
unfolding lt eq
lt_not_eq nan v p h = absurd p
lt_not_eq (inf true) v p h = absurd p
lt_not_eq (inf false) nan p h = refl
lt_not_eq (inf false) (inf t) p h = absurd (false≢true h)
lt_not_eq (inf false) (fin t n d) p h = absurd (false≢true h)
lt_not_eq (fin true m e) v p h = absurd p
lt_not_eq (fin false m e) nan p h = absurd (false≢true h)
lt_not_eq (fin false m e) (inf t) p h = refl
lt_not_eq (fin false m e) (fin true n d) p h = absurd (false≢true h)
lt_not_eq (fin false m e) (fin false n d) p h = and_false (eqb (m * up e * down d) (n * up d * down e)) true (not_equal (m * up e * down d) (n * up d * down e) h)

-- a product that is zero has a first factor that is zero, where the second is not
zero_first : (a b : ℕ) → 0 < b → a * b ≡ 0 → a ≡ 0
zero_first zero b B h = refl
zero_first (suc a) b B h = absurd (none (suc a * b) (mul-pos (first a) B) h)
  where
    first : (a : ℕ) → 0 < suc a
    first a = omega arith

    none : (z : ℕ) → 0 < z → z ≡ 0 → ⊥
    none z g e = omega arith

both_true : (a b : Bool) → a ≡ true → b ≡ true → (a && b) ≡ true
both_true a b h k = ap (λ (c : Bool). c && b) h ∙ k

and_second : (a b : Bool) → (a && b) ≡ true → b ≡ true
and_second true b h = h
and_second false b h = absurd (false≢true h)

-- if y is v, and x is at most y and not below v, then x is v
eq_back : (x y v : Float) → T (plus x) → T (plus y) → T (le x y) → lt x v ≡ false → eq y v ≡ true → eq x v ≡ true
unfolding le lt eq
eq_back nan y v p q h k e = absurd p
eq_back (inf true) y v p q h k e = absurd p
eq_back (fin true m g) y v p q h k e = absurd p
eq_back (inf false) nan v p q h k e = absurd q
eq_back (inf false) (inf true) v p q h k e = absurd q
eq_back (inf false) (inf false) v p q h k e = e
eq_back (inf false) (fin s n d) v p q h k e = absurd h
eq_back (fin false m g) nan v p q h k e = absurd q
eq_back (fin false m g) (inf true) v p q h k e = absurd q
eq_back (fin false m g) (inf false) nan p q h k e = absurd (false≢true e)
eq_back (fin false m g) (inf false) (inf true) p q h k e = absurd (false≢true e)
eq_back (fin false m g) (inf false) (inf false) p q h k e = absurd (true≢false k)
eq_back (fin false m g) (inf false) (fin t l c) p q h k e = absurd (false≢true e)
eq_back (fin false m g) (fin true n d) v p q h k e = absurd q
eq_back (fin false m g) (fin false n d) nan p q h k e = absurd (false≢true e)
eq_back (fin false m g) (fin false n d) (inf t) p q h k e = absurd (false≢true e)
eq_back (fin false m g) (fin false n d) (fin false l c) p q h k e =
    let w : n * up d * down c ≡ l * up c * down d = eqb-true (n * up d * down c) (l * up c * down d) (and_true (eqb (n * up d * down c) (l * up c * down d)) true e) in
    let a : m * up g * down c ≤ l * up c * down g =
    through (m * up g) (n * up d) (l * up c) (down g) (down d) (down c) (down_pos d) (lt_or_eq (m * up g * down d) (n * up d * down g) h) (le_of_eq w) in
    let b : l * up c * down g ≤ m * up g * down c = ltb-false (m * up g * down c) (l * up c * down g) k in
    both_true (eqb (m * up g * down c) (l * up c * down g)) true (eq-eqb (m * up g * down c) (l * up c * down g) (le_antisymm a b)) refl
eq_back (fin false m g) (fin false n d) (fin true l c) p q h k e =
    let w : n * up d * down c ≡ l * up c * down d = eqb-true (n * up d * down c) (l * up c * down d) (and_true (eqb (n * up d * down c) (l * up c * down d)) (eqb (n * up d * down c) 0) e) in
    let z : n * up d * down c ≡ 0 = eqb-true (n * up d * down c) 0 (and_second (eqb (n * up d * down c) (l * up c * down d)) (eqb (n * up d * down c) 0) e) in
    let y : n * up d ≡ 0 = zero_first (n * up d) (down c) (down_pos c) z in
    let v : l * up c ≡ 0 = zero_first (l * up c) (down d) (down_pos d) (sym w ∙ z) in
    let a : m * up g * down d ≤ 0 * down g = subst (λ (i : ℕ). m * up g * down d ≤ i * down g) y (lt_or_eq (m * up g * down d) (n * up d * down g) h) in
    let x : m * up g ≡ 0 = zero_first (m * up g) (down d) (down_pos d) (omega arith) in
    both_true (eqb (m * up g * down c) (l * up c * down g)) (eqb (m * up g * down c) 0)
    (eq-eqb (m * up g * down c) (l * up c * down g) (ap (λ (i : ℕ). i * down c) x ∙ zeros (down c) (down g) ∙ ap (λ (i : ℕ). i * down g) (sym v)))
    (eq-eqb (m * up g * down c) 0 (ap (λ (i : ℕ). i * down c) x ∙ zeros (down c) 0))
  where
    zeros : (i j : ℕ) → 0 * i ≡ 0 * j
    zeros i j = omega arith

pub le_or_lt : (a b : ℕ) → (a ≤ b) ⊎ (b < a)
le_or_lt zero b = inl zero-le
le_or_lt (suc a) zero = inr (suc-le-suc zero-le)
le_or_lt (suc a) (suc b) = ⊎_elim (λ (p : a ≤ b). inl (suc-le-suc p)) (λ (q : b < a). inr (suc-le-suc q)) (le_or_lt a b)

pub false_of : (b : Bool) → (b ≡ true → ⊥) → b ≡ false
false_of true h = absurd (h refl)
false_of false h = refl

-- ---- the first that passes

first_at : (count : ℕ) (test : ℕ → Bool) (i m : ℕ) → i ≤ m → m < i + count → test m ≡ true → ((k : ℕ) → k < m → test k ≡ false) → first_of count test i ≡ Some m
unfolding first_of
first_at zero test i m g h t f = absurd (none i m g h)
  where
    none : (i m : ℕ) → i ≤ m → m < i + 0 → ⊥
    none i m g h = omega arith
first_at (suc count) test i m g h t f =
    elim (eq-or-lt_of_le g) [
      | inl e ↦ ap (λ (b : Bool). pick_found b (Some i) (first_of count test (i + 1))) (ap test e ∙ t) ∙ ap Some e
      | inr l ↦
          ap (λ (b : Bool). pick_found b (Some i) (first_of count test (i + 1))) (f i l)
          ∙ first_at count test (i + 1) m (omega arith) (omega arith) t f
    ]

first_none : (count : ℕ) (test : ℕ → Bool) (i : ℕ) → ((k : ℕ) → k < i + count → test k ≡ false) → first_of count test i ≡ None
unfolding first_of
first_none zero test i f = refl
first_none (suc count) test i f =
    ap (λ (b : Bool). pick_found b (Some i) (first_of count test (i + 1))) (f i (omega arith))
    ∙ first_none count test (i + 1) (λ (k : ℕ) (h : k < i + 1 + count). f k (omega arith))

-- ---- what the bisection's end says
module _ {v : Float} {n : Bool} {p m : ℕ} (r : Reached v n p m) where
  under : (k : ℕ) → k < m → gives v n p k ≡ false
  under k h = lt_not_eq (value_of k n p) v (value_plus k n p) (r.before k h)

  pub found_here : {x : Float} → m < 10 ^ 15 → x ≡ value_of m n p → eq x v ≡ true → Some m ≡ find_of v n p
  found_here {x} h e t = sym (first_at (10 ^ 15) (gives v n p) 0 m (omega arith) (omega arith) (ap (λ (y : Float). eq y v) (sym e) ∙ t) under)

  pub none_beyond : 10 ^ 15 ≤ m → None ≡ find_of v n p
  none_beyond h = sym (first_none (10 ^ 15) (gives v n p) 0 (λ (k : ℕ) (g : k < 0 + 10 ^ 15). under k (omega arith)))

  pub none_here : {x : Float} → m < 10 ^ 15 → x ≡ value_of m n p → eq x v ≡ false → None ≡ find_of v n p
  none_here {x} h e t = sym (first_none (10 ^ 15) (gives v n p) 0 other)
    where
      other : (k : ℕ) → k < 0 + 10 ^ 15 → gives v n p k ≡ false
      other k g = ⊎_elim
          (λ (l : m ≤ k). false_of (gives v n p k) (λ (y : gives v n p k ≡ true).
          true≢false
          (sym (eq_back (value_of m n p) (value_of k n p) v (value_plus m n p) (value_plus k n p) (value_mono m k n p l) (r.here h) y)
          ∙ ap (λ (z : Float). eq z v) (sym e)
          ∙ t)))
          (λ (l : k < m). under k l)
          (le_or_lt m k)
