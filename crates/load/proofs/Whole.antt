-- Whole numbers as floats: their negatives and differences. Assumes nothing.
use Rattle.std.proofs.Common.{◌≡◌, ℕ, zero, suc, ◌+◌, ◌-◌, ◌*◌, ◌/◌, ◌%◌, ◌^◌, ◌<◌, ◌≤◌, Bool, true, false, cond, not, ltb, ℤ, pos, neg_ℤ, nat_abs, refl, ap, ◌∙◌, arith}
use Prim.Native.Nat.{compare}
use lib.IntN.{neg_ℤ-neg_ℤ}
use lib.Ieee.{Format, prec, emax, low, size, nearest, Float, nan, inf, fin, binary64, of_int, round, units, odd, neg, sub}
use Rattle.float.specs.Float.{sub64}
use Rattle.galerkin.specs.Whole.{Whole, signed}
use Rattle.galerkin.proofs.exact.Whole.{add_whole, of_int_whole}

-- A rounded fraction, negated, is the negative fraction rounded.
neg_odd : (d q k l : ℕ) (s : Bool) → neg (odd d s q k l) ≡ odd d (not s) q k l
unfolding odd neg
neg_odd d zero k l s = refl
neg_odd d (suc q) k l s = refl

neg_units : (f : Format) (s : Bool) (q k : ℕ) → neg (units f s q k) ≡ units f (not s) q k
unfolding units neg odd
neg_units f s q k = go (ltb (q * 2 ^ k) (2 ^ (low f + suc (emax f))))
  where
    go : (b : Bool) → neg (cond b (odd (suc (prec f)) s q k (low f)) (inf s)) ≡ cond b (odd (suc (prec f)) (not s) q k (low f)) (inf (not s))
    go true = neg_odd (suc (prec f)) q k (low f) s
    go false = refl

pub neg_round : (f : Format) (s : Bool) (n d : ℕ) → neg (round f s n d) ≡ round f (not s) n d
unfolding round
neg_round f s n d =
    let m = n * 2 ^ low f in
    let k = size (m / d) - prec f in
    let u = d * 2 ^ k in
    neg_units f s (nearest (m / u) (compare (m % u * 2) u)) k

-- The negative of a whole number above zero.
pub neg_off : (c : ℕ) → 0 < c → neg (of_int binary64 (pos c)) ≡ of_int binary64 (neg_ℤ (pos c))
unfolding of_int
neg_off zero h = absurd (omega arith)
neg_off (suc c) h = neg_round binary64 false (suc c) 1

-- The negative of a whole number is one.
neg_whole : (x : Float) (z : ℤ) → Whole x z → Whole (neg x) (neg_ℤ z)
unfolding neg
neg_whole nan z w = absurd w.value
neg_whole (inf t) z w = absurd w.value
neg_whole (fin t m e) z w = record {
  sign = not w.sign;
  size = w.size;
  value = (ap not w.value.0, w.value.1);
  is = ap neg_ℤ w.is ∙ neg_signed w.sign w.size;
}
  where
    neg_signed : (s : Bool) (a : ℕ) → neg_ℤ (signed s a) ≡ signed (not s) a
    neg_signed true a = neg_ℤ-neg_ℤ (pos a)
    neg_signed false a = refl

-- A negative number is as large as the number.
pub nat_abs_off : (c : ℕ) → nat_abs (neg_ℤ (pos c)) ≡ c
nat_abs_off zero = refl
nat_abs_off (suc c) = refl

-- A whole number less a negative one is their sum.
pub less_off : (t c : ℕ) → t ≤ 2 ^ 53 → c ≤ 2 ^ 53 → sub64 (of_int binary64 (pos t)) (of_int binary64 (neg_ℤ (pos c))) ≡ of_int binary64 (pos (t + c))
unfolding sub
less_off t c h k =
    let w : Whole (neg (of_int binary64 (neg_ℤ (pos c)))) (neg_ℤ (neg_ℤ (pos c))) =
    neg_whole (of_int binary64 (neg_ℤ (pos c))) (neg_ℤ (pos c)) (of_int_whole (neg_ℤ (pos c)) (omega (arith, nat_abs_off c))) in
    add_whole binary64 (pos t) (neg (of_int binary64 (neg_ℤ (pos c)))) (pos c) h (rw (neg_ℤ-neg_ℤ (pos c)) at w)
