-- A value that was written is read as itself, with +0 for -0; and values that are equal as numbers are then the same. Assumes nothing.
use mathlib.Core.Path.{◌≡◌, refl, sym, ap, ◌∙◌}
use mathlib.Core.Bool.{Bool, true, false, cond, ◌&&◌, ◌||◌, beq, false≢true}
use Prim.Native.Nat.{ℕ, zero, suc, ◌+◌, ◌*◌, ◌<◌}
use native.Mathlib.Omega.{arith}
use native.Mathlib.Nat.{zero-mul, mul-pos}
use lib.IntN.{ℤ, pos}
use lib.Dec.{T, eqb}
use lib.Ieee.{Float, nan, inf, fin, binary64, up, down, of_bits, neg, lt, eq, fits}
use lib.Ieee.Fits.{neg-fits, down_pos, up_pos}
use lib.Ieee.Bits.{of_bits-fits}
use borrow.Author.Tests.{eqb-true, eq-eqb, ne_eqb, ltb-true}
use Rattle.std.specs.Prelude.{Option, Some, None}
use Rattle.store.proofs.store.Each.{both_l, both_r}
use Rattle.decimal.specs.Decimal.{value_of, plus, write_of, is_minus, magnitude_of, signed_of}
use Rattle.decimal.proofs.Order.{same, value_plus, value_fits}
use Rattle.decimal.proofs.Signs.{signed_trip, minus_trip}
use Rattle.matrix_writer.specs.Writing.{is_found, writable}
use Rattle.matrix_writer.specs.Theorem.{found_value, read_back}
use Rattle.matrix_file_theorem.specs.Theorem.{positive_zero}

abbrev zero64 : Float
zero64 = of_bits binary64 0

zero_is : zero64 ≡ fin false 0 (pos 0)
unfolding of_bits
zero_is = refl

zero_plus : T (plus zero64)
unfolding of_bits
zero_plus = tt

-- ---- values that are equal as numbers

none_left : (a u d : ℕ) → 0 < u → 0 < d → a * u * d ≡ 0 → a ≡ 0
none_left zero u d p q h = refl
none_left (suc a) u d p q h = absurd (go (mul-pos (mul-pos (positive a) p) q) h)
  where
    positive : (n : ℕ) → 0 < suc n
    positive n = omega arith

    go : 0 < suc a * u * d → suc a * u * d ≡ 0 → ⊥
    go x y = omega arith

or_yes : (b : Bool) → (true && (b || true)) ≡ true
or_yes true = refl
or_yes false = refl

zero_equal : (s : Bool) (e : ℤ) → eq (fin s 0 e) (fin false 0 (pos 0)) ≡ true
unfolding eq
zero_equal s e =
    let a : 0 * up e * 1 ≡ 0 = ap (λ (n : ℕ). n * 1) (zero-mul (up e)) in
    let b : 0 * 1 * down e ≡ 0 = zero-mul (down e) in
    ap (λ (t : Bool). t && (beq s false || eqb (0 * up e * 1) 0)) (eq-eqb (0 * up e * 1) (0 * 1 * down e) (a ∙ sym b))
    ∙ ap (λ (t : Bool). true && (beq s false || t)) (eq-eqb (0 * up e * 1) 0 a)
    ∙ or_yes (beq s false)

-- a number without a size is zero, whatever its sign
zero_number : (s : Bool) (m : ℕ) (e : ℤ) → m ≡ 0 → positive_zero (fin s m e) ≡ zero64
zero_number s m e h =
    ap (λ (n : ℕ). positive_zero (fin s n e)) h
    ∙ ap (λ (b : Bool). cond b zero64 (fin s 0 e)) (ap (λ (z : Float). eq (fin s 0 e) z) zero_is ∙ zero_equal s e)

-- numbers of other signs that are equal have no size
opposite : (s t : Bool) (m : ℕ) (e : ℤ) (n : ℕ) (d : ℤ) → beq s t ≡ false → eq (fin s m e) (fin t n d) ≡ true → (m ≡ 0) × (n ≡ 0)
unfolding eq
opposite s t m e n d o h =
    let a = m * up e * down d in
    let b = n * up d * down e in
    let k : a ≡ b = eqb-true a b (both_l (eqb a b) (beq s t || eqb a 0) h) in
    let z : a ≡ 0 = eqb-true a 0 (ap (λ (x : Bool). x || eqb a 0) (sym o) ∙ both_r (eqb a b) (beq s t || eqb a 0) h) in
    (none_left m (up e) (down d) (up_pos e) (down_pos d) z, none_left n (up d) (down e) (up_pos d) (down_pos e) (sym k ∙ z))

pub equal_values : (x y : Float) → T (fits binary64 x) → T (fits binary64 y) → eq x y ≡ true → positive_zero x ≡ positive_zero y
unfolding eq neg
equal_values nan y F G h = absurd (false≢true h)
equal_values (inf s) nan F G h = absurd (false≢true h)
equal_values (inf s) (fin t n d) F G h = absurd (false≢true h)
equal_values (fin s m e) nan F G h = absurd (false≢true h)
equal_values (fin s m e) (inf t) F G h = absurd (false≢true h)
equal_values (inf true) (inf true) F G h = refl
equal_values (inf true) (inf false) F G h = absurd (false≢true h)
equal_values (inf false) (inf true) F G h = absurd (false≢true h)
equal_values (inf false) (inf false) F G h = refl
equal_values (fin false m e) (fin false n d) F G h = ap positive_zero (same binary64 (fin false m e) (fin false n d) F G tt tt h)
equal_values (fin true m e) (fin true n d) F G h =
    ap (λ (x : Float). positive_zero (neg x)) (same binary64 (fin false m e) (fin false n d) (neg-fits binary64 (fin true m e) F) (neg-fits binary64 (fin true n d) G) tt tt h)
equal_values (fin false m e) (fin true n d) F G h =
    let z = opposite false true m e n d refl h in
    zero_number false m e z.0 ∙ sym (zero_number true n d z.1)
equal_values (fin true m e) (fin false n d) F G h =
    let z = opposite true false m e n d refl h in
    zero_number true m e z.0 ∙ sym (zero_number false n d z.1)

-- ---- a value that was written

plus_same : (x : Float) → T (fits binary64 x) → T (plus x) → x ≡ positive_zero x
plus_same x F P = go (eq x zero64) refl
  where
    go : (b : Bool) → eq x zero64 ≡ b → x ≡ cond b zero64 x
    go true e = same binary64 x zero64 F (of_bits-fits binary64 0) P zero_plus e
    go false e = refl

below_differs : (v : Float) → lt v (fin false 0 (pos 0)) ≡ true → eq v (fin false 0 (pos 0)) ≡ false
unfolding lt eq
below_differs nan h = refl
below_differs (inf s) h = refl
below_differs (fin false m e) h =
    absurd (none (m * up e * 1) (0 * 1 * down e) (zero-mul (down e)) (ltb-true (m * up e * 1) (0 * 1 * down e) h))
  where
    none : (a b : ℕ) → b ≡ 0 → a < b → ⊥
    none a b z l = omega arith
below_differs (fin true m e) h =
    ap (λ (t : Bool). t && (false || eqb (m * up e * 1) 0))
    (ne_eqb (m * up e * 1) (0 * 1 * down e) (λ k. none (m * up e * 1) (0 * 1 * down e) (zero-mul (down e)) (ltb-true 0 (m * up e * 1 + 0 * 1 * down e) h) k))
  where
    none : (a b : ℕ) → b ≡ 0 → 0 < a + b → a ≡ b → ⊥
    none a b z l k = omega arith

minus_differs : (v : Float) → is_minus v ≡ true → eq v zero64 ≡ false
minus_differs v h =
    ap (λ (z : Float). eq v z) zero_is ∙ below_differs v (ap (λ (z : Float). lt v z) (sym zero_is) ∙ h)

value_is : (v : Float) (m : ℕ) (n : Bool) (q : ℕ) → T (fits binary64 v) → write_of (magnitude_of v) ≡ Some (m, n, q)
    → signed_of (is_minus v) (value_of m n q) ≡ positive_zero v
value_is v m n q F e = go (is_minus v) refl (signed_trip v m n q e) e
  where
    go : (b : Bool) → is_minus v ≡ b → eq (signed_of b (value_of m n q)) v ≡ true → write_of (cond b (neg v) v) ≡ Some (m, n, q)
        → signed_of b (value_of m n q) ≡ positive_zero v
    go true h t e = minus_trip v m n q F h e ∙ sym (ap (λ (b : Bool). cond b zero64 v) (minus_differs v h))
    go false h t e =
        plus_same (value_of m n q) (value_fits m n q) (value_plus m n q) ∙ equal_values (value_of m n q) v (value_fits m n q) F t

-- What is written of a value is read as the value, with +0 for -0.
pub read_positive : (v : Float) → T (fits binary64 v) → writable v ≡ true → read_back v ≡ positive_zero v
read_positive v F w = go (write_of (magnitude_of v)) refl w
  where
    go : (x : Option (ℕ × Bool × ℕ)) → write_of (magnitude_of v) ≡ x → is_found x ≡ true → read_back v ≡ positive_zero v
    go (Some (m, n, q)) e t = ap (found_value (is_minus v)) e ∙ value_is v m n q F e
    go None e t = absurd (false≢true t)
