-- Values below zero: what was written after the minus sign is read as the value, zero signs apart.
-- Assumes nothing.
use mathlib.Core.Path.{◌≡◌, refl, sym, ap, ◌∙◌}
use mathlib.Core.Bool.{Bool, true, false, cond, false≢true}
use Prim.Native.Nat.{ℕ, ◌*◌, ◌≤◌}
use native.Mathlib.Omega.{arith}
use borrow.Author.Tests.{le-ltb}
use lib.IntN.{ℤ, pos}
use lib.Dec.{T}
use lib.Ieee.{Float, nan, inf, fin, binary64, up, down, of_bits, neg, lt, eq, fits}
use lib.Ieee.Fits.{neg-fits}
use Rattle.std.specs.Prelude.{Some}
use Rattle.decimal.specs.Decimal.{value_of, plus, gives, write_of, is_minus, magnitude_of, signed_of}
use Rattle.decimal.proofs.Laws.{write_nearest, round_trip}

eq_neg : (x v : Float) → eq (neg x) v ≡ eq x (neg v)
unfolding eq neg
eq_neg nan nan = refl
eq_neg nan (inf t) = refl
eq_neg nan (fin t n d) = refl
eq_neg (inf s) nan = refl
eq_neg (inf true) (inf true) = refl
eq_neg (inf true) (inf false) = refl
eq_neg (inf false) (inf true) = refl
eq_neg (inf false) (inf false) = refl
eq_neg (inf s) (fin t n d) = refl
eq_neg (fin s m e) nan = refl
eq_neg (fin s m e) (inf t) = refl
eq_neg (fin true m e) (fin true n d) = refl
eq_neg (fin true m e) (fin false n d) = refl
eq_neg (fin false m e) (fin true n d) = refl
eq_neg (fin false m e) (fin false n d) = refl

-- Reading what was written, with its sign, gives a value that equals v: v itself, but for +0 in the place of -0.
pub signed_trip : (v : Float) (m : ℕ) (n : Bool) (q : ℕ) → write_of (magnitude_of v) ≡ Some (m, n, q) → eq (signed_of (is_minus v) (value_of m n q)) v ≡ true
signed_trip v m n q e = go (is_minus v) (write_nearest (magnitude_of v) m n q e).value
  where
    go : (b : Bool) → gives (cond b (neg v) v) n q m ≡ true → eq (signed_of b (value_of m n q)) v ≡ true
    go true g = eq_neg (value_of m n q) v ∙ g
    go false g = g

neg_neg : (v : Float) → neg (neg v) ≡ v
unfolding neg
neg_neg nan = refl
neg_neg (inf true) = refl
neg_neg (inf false) = refl
neg_neg (fin true m e) = refl
neg_neg (fin false m e) = refl

zero_is : of_bits binary64 0 ≡ fin false 0 (pos 0)
unfolding of_bits
zero_is = refl

not_below_zero : (m : ℕ) (e : ℤ) → lt (fin false m e) (fin false 0 (pos 0)) ≡ false
unfolding lt
not_below_zero m e = le-ltb (m * up e * 1) (0 * 1 * down e) (nothing (down e) (m * up e * 1))
  where
    nothing : (d a : ℕ) → 0 * 1 * d ≤ a
    nothing d a = omega arith

not_minus : (m : ℕ) (e : ℤ) → is_minus (fin false m e) ≡ false
not_minus m e = ap (λ (z : Float). lt (fin false m e) z) zero_is ∙ not_below_zero m e

minus_plus : (v : Float) → is_minus v ≡ true → T (plus (neg v))
unfolding lt neg of_bits
minus_plus nan h = absurd (false≢true h)
minus_plus (inf true) h = tt
minus_plus (inf false) h = absurd (false≢true h)
minus_plus (fin true m e) h = tt
minus_plus (fin false m e) h = absurd (false≢true (sym (not_minus m e) ∙ h))

-- Below zero it is v itself; `round_trip` says so of a v without a minus sign.
pub minus_trip : (v : Float) (m : ℕ) (n : Bool) (q : ℕ) → T (fits binary64 v) → is_minus v ≡ true → write_of (neg v) ≡ Some (m, n, q) → neg (value_of m n q) ≡ v
minus_trip v m n q F h e = ap neg (round_trip (neg v) m n q (neg-fits binary64 v F) (minus_plus v h) e) ∙ neg_neg v
