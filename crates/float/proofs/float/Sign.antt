-- Clearing the sign bit gives `absOf`. Assumes nothing.
use mathlib.Core.Path.{◌≡◌, refl, sym, ap, ◌∙◌, subst}
use mathlib.Core.Bool.{Bool, true, false, not, cond}
use Prim.Native.Nat.{ℕ, zero, suc, ◌+◌, ◌-◌, ◌/◌, ◌%◌, ◌^◌, ◌<◌}
use native.Mathlib.Nat.{mod-lt, mod-eq_of_lt, mod-mod_of_dvd, dvd-mul_right}
use lib.Pow.{pow_pos}
use lib.Bits.{bit_and, and_mask}
use lib.Dec.{T, leb, eqb}
use lib.Ieee.{Float, nan, inf, fin, binary64, odd, of_fields, of_bits, to_bits, is_nan, nan_bits, fits}
use lib.Ieee.Bits.{of_bits-to_bits, nan_bits_is}
use borrow.Author.Tests.{lt-leb}
use Rattle.float.specs.Float.{abs_of}

-- Bits are read by their fields: sign, exponent, digits.
pub of_bits_is : (b : ℕ) → of_bits binary64 b ≡ of_fields binary64 (leb (2 ^ 63) b) (b % 2 ^ 63 / 2 ^ 52) (b % 2 ^ 52)
unfolding of_bits
of_bits_is b = refl

-- Below 2 ^ 63 the sign is clear.
pub plus_is : (b : ℕ) → b < 2 ^ 63 → of_bits binary64 b ≡ of_fields binary64 false (b / 2 ^ 52) (b % 2 ^ 52)
plus_is b h =
    of_bits_is b
    ∙ ap (λ (s : Bool). of_fields binary64 s (b % 2 ^ 63 / 2 ^ 52) (b % 2 ^ 52)) (lt-leb (2 ^ 63) b h)
    ∙ ap (λ (x : ℕ). of_fields binary64 false (x / 2 ^ 52) (b % 2 ^ 52)) (mod-eq_of_lt h)

-- |x| by its digits and exponent.
abs_odd : (d : ℕ) (s : Bool) (q k l : ℕ) → abs_of (odd d s q k l) ≡ odd d false q k l
unfolding abs_of odd
abs_odd d s zero k l = refl
abs_odd d s (suc q) k l = refl

-- The fields of |x| are those of x, with the sign clear.
abs_fields : (s : Bool) (x t : ℕ) → abs_of (of_fields binary64 s x t) ≡ of_fields binary64 false x t
unfolding of_fields abs_of
abs_fields s zero t = abs_odd 53 s t 0 1074
abs_fields s (suc x) t = go (eqb (suc x) 2047) (eqb t 0)
  where
    go : (a b : Bool) → abs_of (cond a (cond b (inf s) nan) (odd 53 s (2 ^ 52 + t) x 1074))
        ≡ cond a (cond b (inf false) nan) (odd 53 false (2 ^ 52 + t) x 1074)
    go true true = refl
    go true false = refl
    go false b = abs_odd 53 s (2 ^ 52 + t) x 1074

-- A pattern without its sign bit is that of the magnitude.
cleared : (b : ℕ) → of_bits binary64 (b % 2 ^ 63) ≡ abs_of (of_bits binary64 b)
cleared b =
    plus_is (b % 2 ^ 63) (mod-lt b (pow_pos 63))
    ∙ ap (of_fields binary64 false (b % 2 ^ 63 / 2 ^ 52)) (mod-mod_of_dvd (2 ^ 52) b (dvd-mul_right (2 ^ 52) (2 ^ 11)))
    ∙ sym (abs_fields (leb (2 ^ 63) b) (b % 2 ^ 63 / 2 ^ 52) (b % 2 ^ 52))
    ∙ ap abs_of (sym (of_bits_is b))

-- |x| is a NaN where x is.
abs_nan : (x : Float) → is_nan (abs_of x) ≡ is_nan x
unfolding is_nan abs_of
abs_nan nan = refl
abs_nan (inf s) = refl
abs_nan (fin s m e) = refl

-- The bits of x without the sign bit, of an x that an f64 holds.
module _ (x : Float) (F : T (fits binary64 x)) where
  abbrev masked : ℕ
  masked = bit_and (to_bits binary64 x) (2 ^ 63 - 1)

  -- They are the bits of |x|.
  pub abs_is : of_bits binary64 masked ≡ abs_of x
  abs_is =
      ap (of_bits binary64) (and_mask (to_bits binary64 x) 63)
      ∙ cleared (to_bits binary64 x)
      ∙ ap abs_of (of_bits-to_bits binary64 x F)

  -- They are no NaN's where x is none.
  pub abs_bits : T (not (is_nan x)) → T (not (nan_bits binary64 masked))
  abs_bits n = subst (λ (t : Bool). T (not t)) (sym (nan_bits_is binary64 masked ∙ ap is_nan abs_is ∙ abs_nan x)) n

-- A NaN stays as it is.
pub abs_of_nan : (x : Float) → x ≡ nan → x ≡ abs_of x
unfolding abs_of
abs_of_nan x e = e ∙ ap abs_of (sym e)
