-- `sqrt`'s cases: the special values, and a finite value above zero as `packed` takes it. Assumes nothing.
use mathlib.Core.Path.{◌≡◌, refl, sym, ap, ◌∙◌, subst}
use mathlib.Core.Bool.{Bool, true, false, not, cond, true≢false, false≢true}
use Prim.Native.Nat.{ℕ, zero, suc, ◌+◌, ◌-◌, ◌*◌, ◌/◌, ◌%◌, ◌^◌, ◌≤◌, ◌<◌}
use native.Mathlib.Nat.{le_trans, le_of_eq, lt_of_lt_of_le, lt_of_le_of_lt, lt_irrefl, lt_of_not-le, zero-lt-suc}
use native.Mathlib.Nat.{zero-mul, mul-one, mul-pos, mul_assoc, mul_right_comm, mul-div_cancel, mod-lt}
use native.Mathlib.Nat.{mul-le-mul_right}
use native.Mathlib.Omega.{arith}
use lib.Dec.{T, eqb, lt→ltb}
use lib.Pow.{pow-add, pow_pos, pow_mono, shl_lt, shl_exact}
use lib.Count.{count_leading_zeros, leading_top}
use lib.Ieee.{Float, nan, inf, fin, binary64, up, down, odd, of_fields, of_bits, to_bits, fits, is_nan, lt}
use lib.Ieee.Fits.{up_pos, down_pos}
use lib.Ieee.Bits.{of_bits-to_bits}
use lib.Ieee.Exact.{HasValue, odd_sign}
use lib.Ieee.Positive.{above}
use borrow.Author.Tests.{ltb-true, ltb-false, le-leb}
use Rattle.float.specs.Float.{zero64}
use Rattle.float.specs.Sqrt.{sqrt_of, nearest_root}
use Rattle.float.proofs.float.Sign.{of_bits_is, plus_is}
use Rattle.float.proofs.root.Round.{normal_is}
use Rattle.float.proofs.root.Pack.{Packs, pow_lt_back}

-- ---- the special values

-- A value below zero has no root.
pub of_negative : (x : Float) → lt x zero64 ≡ true → nan ≡ sqrt_of x
unfolding sqrt_of lt of_bits
of_negative nan h = absurd (false≢true h)
of_negative (inf true) h = refl
of_negative (inf false) h = absurd (false≢true h)
of_negative (fin true zero e) h =
    absurd (let l = ltb-true 0 (0 * up e * 1 + 0 * down e) h in omega (arith, zero-mul (up e), zero-mul (down e)))
of_negative (fin true (suc m) e) h = refl
of_negative (fin false m e) h =
    absurd (let l = ltb-true (m * up e * 1) (0 * down e) h in omega (arith, zero-mul (down e)))

-- A zero and a NaN are their own roots.
pub of_rest : (x : Float) → lt x zero64 ≡ false → lt zero64 x ≡ false → x ≡ sqrt_of x
unfolding sqrt_of lt of_bits
of_rest nan h k = refl
of_rest (inf true) h k = absurd (true≢false h)
of_rest (inf false) h k = refl
of_rest (fin s zero e) h k = refl
of_rest (fin true (suc m) e) h k =
    absurd (let l = ltb-false 0 (suc m * up e * 1 + 0 * down e) h in omega (arith, mul-pos (zero-lt-suc m) (up_pos e)))
of_rest (fin false (suc m) e) h k =
    absurd
    (let l = ltb-false (0 * down e) (suc m * up e * 1) k in
    omega (arith, mul-pos (zero-lt-suc m) (up_pos e), zero-mul (down e)))

-- So is the infinity above zero.
pub of_inf : (x : Float) → x ≡ inf false → x ≡ sqrt_of x
unfolding sqrt_of
of_inf x e = e ∙ ap sqrt_of (sym e)

-- `x > 0.0` says that x is above zero.
pub is_above : (x : Float) → lt zero64 x ≡ true → T (above x)
unfolding lt of_bits
is_above nan h = absurd (false≢true h)
is_above (inf true) h = absurd (false≢true h)
is_above (inf false) h = tt
is_above (fin true m e) h = absurd (false≢true h)
is_above (fin false zero e) h =
    absurd (let l = ltb-true (0 * down e) (0 * up e * 1) h in omega (arith, zero-mul (up e)))
is_above (fin false (suc m) e) h = lt→ltb 0 (suc m) (zero-lt-suc m)

-- A value above zero is no NaN.
pub above_no_nan : (x : Float) → T (above x) → T (not (is_nan x))
unfolding is_nan
above_no_nan nan h = h
above_no_nan (inf s) h = tt
above_no_nan (fin s m e) h = tt

-- ---- the bits of a value above zero

-- A value with a minus sign is not above zero,
odd_minus : (d q k l : ℕ) → T (above (odd d true q k l)) → ⊥
unfolding odd
odd_minus d zero k l p = p
odd_minus d (suc q) k l p = p

-- whatever its fields.
fields_minus : (x t : ℕ) → T (above (of_fields binary64 true x t)) → ⊥
unfolding of_fields
fields_minus zero t p = odd_minus 53 t 0 1074 p
fields_minus (suc x) t p = go (eqb (suc x) 2047) (eqb t 0) p
  where
    go : (a b : Bool) → T (above (cond a (cond b (inf true) nan) (odd 53 true (2 ^ 52 + t) x 1074))) → ⊥
    go true true q = q
    go true false q = q
    go false b q = odd_minus 53 (2 ^ 52 + t) x 1074 q

-- The sign bit is clear.
plus : (b : ℕ) → T (above (of_bits binary64 b)) → b < 2 ^ 63
plus b h = lt_of_not-le minus
  where
    minus : 2 ^ 63 ≤ b → ⊥
    minus l =
        fields_minus (b % 2 ^ 63 / 2 ^ 52) (b % 2 ^ 52) (rw (of_bits_is b, le-leb (2 ^ 63) b l) at h)

-- The field of all ones is the infinity's.
inf_is : (t : ℕ) → T (above (of_fields binary64 false 2047 t)) → of_fields binary64 false 2047 t ≡ inf false
unfolding of_fields
inf_is t h = go (eqb t 0) h
  where
    go : (b : Bool) → T (above (cond b (inf false) nan)) → cond b (inf false) nan ≡ inf false
    go true q = refl
    go false q = absurd q

-- A field of 0 has no leading digit.
sub_is : (t : ℕ) → of_fields binary64 false 0 t ≡ odd 53 false t 0 1074
unfolding of_fields
sub_is t = refl

-- Digits of a value above zero are above zero.
odd_above : (t : ℕ) → T (above (odd 53 false t 0 1074)) → 0 < t
unfolding odd
odd_above zero h = absurd h
odd_above (suc t) h = zero-lt-suc t

-- ---- a finite value above zero is m * 2 ^ (n − 2098), m having 53 digits

-- m and n are as `packed` takes them, and x is m * 2 ^ (n + 50) / 2 ^ 2148.
pub record Split (x : Float) (m n : ℕ) : Type 0 where
  pub packs : Packs m n
  pub value : HasValue x false (m * 2 ^ (n + 50)) (2 ^ 2148)

-- Zero has no size above zero.
no_zero : (a d u : ℕ) → 0 < a * d → 0 * u * 2 ^ 2148 ≡ a * d → ⊥
no_zero a d u h e = lt_irrefl 0 (subst (λ (x : ℕ). 0 < x) (sym e ∙ ap (λ (x : ℕ). x * 2 ^ 2148) (zero-mul u)) h)

-- The root of x by its size a * 2 ^ −2148.
root_of_lem : (x : Float) (a : ℕ) → 0 < a → HasValue x false a (2 ^ 2148) → sqrt_of x ≡ nearest_root a
unfolding sqrt_of
root_of_lem nan a p h = absurd h
root_of_lem (inf s) a p h = absurd h
root_of_lem (fin true m e) a p h = absurd (true≢false h.0)
root_of_lem (fin false zero e) a p h = absurd (no_zero a (down e) (up e) (mul-pos p (down_pos e)) h.1)
root_of_lem (fin false (suc m) e) a p h = ap nearest_root (ap (λ (x : ℕ). x / down e) h.1 ∙ mul-div_cancel a (down_pos e))

-- The root is then the nearest root of m * 2 ^ (n + 50) units.
pub split_root : {x : Float} {m n : ℕ} → Split x m n → sqrt_of x ≡ nearest_root (m * 2 ^ (n + 50))
split_root {x} {m} {n} s =
    let l : 0 < m = (let p = s.packs in omega arith) in
    root_of_lem x (m * 2 ^ (n + 50)) (mul-pos l (pow_pos (n + 50))) s.value

-- From units of 2 ^ −1074 to units of 2 ^ −2148.
finer : (x : Float) (a b : ℕ) → HasValue x false a (2 ^ 1074) → a * 2 ^ 1074 ≡ b → HasValue x false b (2 ^ 2148)
finer nan a b h e = h
finer (inf s) a b h e = h
finer (fin s m k) a b h e = (
  h.0,
  sym (mul_assoc (m * up k) (2 ^ 1074) (2 ^ 1074))
      ∙ ap (λ (x : ℕ). x * 2 ^ 1074) h.1
      ∙ mul_right_comm a (down k) (2 ^ 1074)
      ∙ ap (λ (x : ℕ). x * down k) e,
)

-- A field from 1 to 2046: the leading digit is there.
normal : (f t : ℕ) → 0 < f → f < 2047 → t < 2 ^ 52 → Split (of_fields binary64 false f t) (2 ^ 52 + t) (f + 1023)
normal zero t p h l = absurd (lt_irrefl 0 p)
normal (suc j) t p h l = record {
  packs = (omega arith, omega arith, omega arith, omega arith);
  value =
      let q = 2 ^ 52 + t in
      let e : j + 1074 ≡ suc j + 1023 + 50 = omega arith in
      finer (of_fields binary64 false (suc j) t) (q * 2 ^ j) (q * 2 ^ (suc j + 1023 + 50))
      (rw (normal_is j t h) (odd_sign 53 false q j 1074))
      (mul_assoc q (2 ^ j) (2 ^ 1074) ∙ ap (λ (x : ℕ). q * x) (sym (pow-add 2 j 1074) ∙ ap (λ (x : ℕ). 2 ^ x) e));
}

-- The digits t of a subnormal x, shifted up by z, the leading zeros of the word, less the eleven above any f64's digits.
pub record Shift (x : Float) (t z : ℕ) : Type 0 where
  pub over : 11 ≤ z
  pub few : z - 11 ≤ 52
  pub split : Split x (t * 2 ^ (z - 11) % 2 ^ 64) (1024 - (z - 11))

-- t of j + 1 digits, shifted up to 53.
shift : (t z j : ℕ) → z + suc j ≡ 64 → j < 52 → 2 ^ j ≤ t → t < 2 ^ suc j
    → Split (of_fields binary64 false 0 t) (t * 2 ^ (z - 11) % 2 ^ 64) (1024 - (z - 11))
shift t z j s J lo hi =
    let u = z - 11 in
    let k : j + u ≡ 52 = omega arith in
    let k' : suc j + u ≡ 53 = omega arith in
    let room : suc j + u ≤ 64 = omega arith in
    let m : t * 2 ^ u % 2 ^ 64 ≡ t * 2 ^ u = shl_exact (suc j) u 64 hi room in
    let v : u + (1024 - u + 50) ≡ 1074 = omega arith in
    record {
      packs = (
        rw m (le_trans (le_of_eq (ap (λ (x : ℕ). 2 ^ x) (sym k) ∙ pow-add 2 j u)) (mul-le-mul_right (2 ^ u) lo)),
        rw m (lt_of_lt_of_le (shl_lt (suc j) u hi) (le_of_eq (ap (λ (x : ℕ). 2 ^ x) k'))),
        omega arith,
        omega arith,
      );
      value =
          finer (of_fields binary64 false 0 t) (t * 2 ^ 0) (t * 2 ^ u % 2 ^ 64 * 2 ^ (1024 - u + 50))
          (rw (sub_is t) (odd_sign 53 false t 0 1074))
          (ap (λ (x : ℕ). x * 2 ^ 1074) (mul-one t)
          ∙ ap (λ (x : ℕ). t * x) (ap (λ (x : ℕ). 2 ^ x) (sym v) ∙ pow-add 2 u (1024 - u + 50))
          ∙ sym (mul_assoc t (2 ^ u) (2 ^ (1024 - u + 50)))
          ∙ ap (λ (x : ℕ). x * 2 ^ (1024 - u + 50)) (sym m));
    }

-- That is what the leading zeros give.
subnormal : (t : ℕ) → 0 < t → t < 2 ^ 52 → Shift (of_fields binary64 false 0 t) t (count_leading_zeros 64 t)
subnormal t p h =
    let word : 52 ≤ 64 = omega arith in
    let z = leading_top 64 t p (lt_of_lt_of_le h (pow_mono word)) in
    let s = z.1 in
    let J = pow_lt_back z.0 52 (lt_of_le_of_lt z.2 h) in
    record {
      over = omega arith;
      few = omega arith;
      split = shift t (count_leading_zeros 64 t) z.0 s J z.2 z.3;
    }

-- ---- by the bits b of an x above zero

module _ (x : Float) (F : T (fits binary64 x)) (A : T (above x)) where
  abbrev b : ℕ
  b = to_bits binary64 x

  -- Its sign is clear,
  small : b < 2 ^ 63
  small = plus b (subst (λ (w : Float). T (above w)) (sym (of_bits-to_bits binary64 x F)) A)

  -- so that its fields are f and the digits,
  is : (f : ℕ) → b / 2 ^ 52 ≡ f → of_fields binary64 false f (b % 2 ^ 52) ≡ x
  is f e = rw (← e, ← (plus_is b small)) (of_bits-to_bits binary64 x F)

  -- and what they say is above zero.
  over_zero : (f : ℕ) → b / 2 ^ 52 ≡ f → T (above (of_fields binary64 false f (b % 2 ^ 52)))
  over_zero f e = subst (λ (w : Float). T (above w)) (sym (is f e)) A

  -- The exponent's field has 11 digits.
  pub field_lt : b / 2 ^ 52 < 2048
  field_lt = let a = small in omega arith

  -- The field 2047 is the infinity's,
  pub at_top : b / 2 ^ 52 ≡ 2047 → x ≡ inf false
  at_top e = sym (is 2047 e) ∙ inf_is (b % 2 ^ 52) (over_zero 2047 e)

  -- the field 0 a subnormal's,
  pub at_sub : b / 2 ^ 52 ≡ 0 → Shift x (b % 2 ^ 52) (count_leading_zeros 64 (b % 2 ^ 52))
  at_sub e = subst (λ (w : Float). Shift w (b % 2 ^ 52) (count_leading_zeros 64 (b % 2 ^ 52))) (is 0 e) (subnormal (b % 2 ^ 52) some (mod-lt b (pow_pos 52)))
    where
      some : 0 < b % 2 ^ 52
      some = odd_above (b % 2 ^ 52) (subst (λ (w : Float). T (above w)) (sub_is (b % 2 ^ 52)) (over_zero 0 e))

  -- and any other a normal value's.
  pub at_normal : (b / 2 ^ 52 ≡ 2047 → ⊥) → (b / 2 ^ 52 ≡ 0 → ⊥) → Split x (2 ^ 52 + b % 2 ^ 52) (b / 2 ^ 52 + 1023)
  at_normal p q =
      subst (λ (w : Float). Split w (2 ^ 52 + b % 2 ^ 52) (b / 2 ^ 52 + 1023)) (is (b / 2 ^ 52) refl)
      (normal (b / 2 ^ 52) (b % 2 ^ 52) (omega arith) (let a = field_lt in omega arith) (mod-lt b (pow_pos 52)))
