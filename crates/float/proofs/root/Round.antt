-- Rounding a number of half units to an f64, and the bits of a normal f64. Assumes nothing.
use mathlib.Core.Path.{◌≡◌, refl, sym, ap, ◌∙◌, subst}
use mathlib.Core.Bool.{Bool, false, cond}
use Prim.Native.Nat.{ℕ, zero, suc, ◌+◌, ◌-◌, ◌*◌, ◌/◌, ◌%◌, ◌^◌, ◌≤◌, ◌<◌, compare, Ordering}
use native.Mathlib.Nat.{le_of_lt, lt_irrefl, not-le_of_lt, mul_assoc, mul-pos, mul-div-mul_right, pow-succ'}
use native.Mathlib.Omega.{arith}
use lib.Arith.{digits_div, digits_mod}
use lib.Count.{count_trailing_zeros, under}
use lib.Dec.{T, is_le, compare_is_eq, eqb, le→leb, leb→le, eqb→eq}
use lib.Pow.{pow_pos}
use lib.Ieee.{nan, inf, fin, binary64, minus, size, nearest, odd, units, round, of_fields, of_bits, is_nan}
use lib.Ieee.Fits.{core, round_is}
use lib.Ieee.Nearest.{closest, closest_same}
use borrow.Author.Tests.{lt-ltb, ne_eqb}
use Rattle.float.proofs.float.Sign.{plus_is}

-- `compare` of a smaller number with a larger.
less : (a b : ℕ) → a < b → compare a b ≡ Ordering.lt
less a b h = go (compare a b) (le→leb a b (le_of_lt h)) (λ t. lt_irrefl b (subst (λ (x : ℕ). x < b) (eqb→eq a b t) h))
  where
    go : (o : Ordering) → T (is_le o) → (T (compare_is_eq o) → ⊥) → o ≡ Ordering.lt
    go Ordering.lt x y = refl
    go Ordering.eq x y = absurd (y tt)
    go Ordering.gt x y = absurd x

-- `compare` of a larger number with a smaller.
more : (a b : ℕ) → b < a → compare a b ≡ Ordering.gt
more a b h = go (compare a b) (λ t. not-le_of_lt h (leb→le a b t))
  where
    go : (o : Ordering) → (T (is_le o) → ⊥) → o ≡ Ordering.gt
    go Ordering.lt x = absurd (x tt)
    go Ordering.eq x = absurd (x tt)
    go Ordering.gt x = refl

-- h and t / b round by how twice t compares with b.
at : (h b t : ℕ) → t < b → closest (h * b + t) b ≡ nearest h (compare (t * 2) b)
at h b t l =
    ap (λ (q : ℕ). nearest q (compare ((h * b + t) % b * 2) b)) (digits_div h l)
    ∙ ap (λ (x : ℕ). nearest h (compare (x * 2) b)) (digits_mod h l)

-- A fraction less than a half above h rounds to h.
pub rounds_down : (h b t : ℕ) → t * 2 < b → closest (h * b + t) b ≡ h
rounds_down h b t l = at h b t (omega arith) ∙ ap (nearest h) (less (t * 2) b l)

-- One more than a half above h rounds to the next number.
pub rounds_up : (h b t : ℕ) → t < b → b < t * 2 → closest (h * b + t) b ≡ h + 1
rounds_up h b t l m = at h b t l ∙ ap (nearest h) (more (t * 2) b m) ∙ omega arith

-- A number a of half units, where a / 2 has 53 + k digits, rounds to a multiple of 2 ^ k units.
pub round_at : (a k : ℕ) → size (a / 2) ≡ 53 + k
    → round binary64 false a (2 ^ 1075) ≡ units binary64 false (closest a (2 ^ suc k)) k
round_at a k h =
    round_is binary64 false a (2 ^ 1075)
    ∙ ap (core binary64 false (a * 2 ^ 1074) (2 ^ 1075)) drops
    ∙ ap (λ (q : ℕ). units binary64 false q k) same
  where
    less_53 : (z k : ℕ) → z ≡ 53 + k → z - 53 ≡ k
    less_53 z k e = omega arith

    drops : size (a * 2 ^ 1074 / 2 ^ 1075) - 53 ≡ k
    drops = ap (λ (x : ℕ). size x - 53) (mul-div-mul_right a 2 (pow_pos 1074)) ∙ less_53 (size (a / 2)) k h

    cross : a * 2 ^ 1074 * 2 ^ suc k ≡ a * (2 ^ 1075 * 2 ^ k)
    cross =
        mul_assoc a (2 ^ 1074) (2 ^ suc k)
        ∙ ap (λ (x : ℕ). a * x) (ap (λ (x : ℕ). 2 ^ 1074 * x) (pow-succ' 2 k) ∙ sym (mul_assoc (2 ^ 1074) 2 (2 ^ k)))

    same : closest (a * 2 ^ 1074) (2 ^ 1075 * 2 ^ k) ≡ closest a (2 ^ suc k)
    same =
        closest_same (a * 2 ^ 1074) (2 ^ 1075 * 2 ^ k) a (2 ^ suc k)
        (mul-pos (pow_pos 1075) (pow_pos k)) (pow_pos (suc k)) cross

-- Below the largest power of two nothing overflows.
pub units_is : (q k : ℕ) → q * 2 ^ k < 2 ^ 2098 → units binary64 false q k ≡ odd 54 false q k 1074
unfolding units
units_is q k h = ap (λ (b : Bool). cond b (odd 54 false q k 1074) (inf false)) (lt-ltb (q * 2 ^ k) (2 ^ 2098) h)

-- No number lies between 0 and 1.
none_below_one : (q : ℕ) → 0 < q → q < 1 → ⊥
none_below_one q h k = omega arith

-- The trailing zeros of a number of d digits are found among them.
zeros_more : (d q : ℕ) → 0 < q → q < 2 ^ d → count_trailing_zeros (suc d) q ≡ count_trailing_zeros d q
unfolding count_trailing_zeros
zeros_more zero q p h = absurd (none_below_one q p h)
zeros_more (suc d) q p h = go (q % 2) refl (λ (e : q % 2 ≡ 0). zeros_more d (q / 2) (half e) half_lt)
  where
    half : q % 2 ≡ 0 → 0 < q / 2
    half e = omega arith

    half_lt : q / 2 < 2 ^ d
    half_lt = let e = pow-succ' 2 d in omega arith

    go : (r : ℕ) → q % 2 ≡ r → (q % 2 ≡ 0 → count_trailing_zeros (suc d) (q / 2) ≡ count_trailing_zeros d (q / 2))
        → under r (count_trailing_zeros (suc d) (q / 2)) ≡ under r (count_trailing_zeros d (q / 2))
    go zero e i = ap suc (i e)
    go (suc r) e i = refl

-- One digit more to look at changes nothing.
pub odd_more : (d : ℕ) (s : Bool) (q k l : ℕ) → 0 < q → q < 2 ^ d → odd (suc d) s q k l ≡ odd d s q k l
unfolding odd
odd_more d s zero k l p h = absurd (lt_irrefl 0 p)
odd_more d s (suc q) k l p h = ap (λ (t : ℕ). fin s (suc q / 2 ^ t) (minus (k + t) l)) (zeros_more d (suc q) p h)

-- Below the field of an infinity, a field above zero has the leading digit.
pub normal_is : (x t : ℕ) → suc x < 2047 → of_fields binary64 false (suc x) t ≡ odd 53 false (2 ^ 52 + t) x 1074
unfolding of_fields
normal_is x t h =
    ap (λ (b : Bool). cond b (cond (eqb t 0) (inf false) nan) (odd 53 false (2 ^ 52 + t) x 1074))
    (ne_eqb (suc x) 2047 (differ (suc x) h))
  where
    differ : (y : ℕ) → y < 2047 → y ≡ 2047 → ⊥
    differ y h e = omega arith

-- The bits of q * 2 ^ (k − 1074), for a q of 53 digits.
pub pattern_is : (q k : ℕ) → 2 ^ 52 ≤ q → q < 2 ^ 53 → k < 2046
    → of_bits binary64 (k * 2 ^ 52 + q) ≡ odd 53 false q k 1074
pattern_is q k lo hi K =
    plus_is (k * 2 ^ 52 + q) small
    ∙ ap (λ (x : ℕ). of_fields binary64 false x ((k * 2 ^ 52 + q) % 2 ^ 52)) field
    ∙ ap (λ (t : ℕ). of_fields binary64 false (suc k) t) digits
    ∙ normal_is k (q - 2 ^ 52) (omega arith)
    ∙ ap (λ (x : ℕ). odd 53 false x k 1074) lead
  where
    small : k * 2 ^ 52 + q < 2 ^ 63
    small = omega arith

    field : (k * 2 ^ 52 + q) / 2 ^ 52 ≡ suc k
    field = omega arith

    digits : (k * 2 ^ 52 + q) % 2 ^ 52 ≡ q - 2 ^ 52
    digits = omega arith

    lead : 2 ^ 52 + (q - 2 ^ 52) ≡ q
    lead = omega arith

-- A value with digits and an exponent is no NaN.
pub odd_no_nan : (d : ℕ) (s : Bool) (q k l : ℕ) → is_nan (odd d s q k l) ≡ false
unfolding odd is_nan
odd_no_nan d s zero k l = refl
odd_no_nan d s (suc q) k l = refl
