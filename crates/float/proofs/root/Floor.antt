-- `wholeRoot n` is √n cut to a whole number. Assumes nothing.
use mathlib.Core.Path.{◌≡◌, refl}
use mathlib.Core.Bool.{Bool, true, false, cond}
use Prim.Native.Nat.{ℕ, zero, suc, ◌+◌, ◌*◌, ◌/◌, ◌^◌, ◌≤◌, ◌<◌}
use native.Mathlib.Nat.{le_refl, mul-pos, mul-lt-mul_of_pos_right, mul-add, add-mul, mul-le-mul, mul-mul-mul_comm}
use native.Mathlib.Nat.{lt_of_lt_of_le, lt_of_le_of_lt, lt_of_not-le, not-le_of_lt, pow-succ'}
use native.Mathlib.Omega.{arith}
use lib.Dec.{leb}
use lib.Pow.{pow_pos}
use lib.Ieee.{size}
use lib.Ieee.Digits.{size-lt}
use borrow.Author.Tests.{leb-true, leb-false}
use Rattle.float.specs.Sqrt.{Root, cut_root, whole_root}

-- The square of the next number.
pub sq_next : (r : ℕ) → (r + 1) * (r + 1) ≡ r * r + 2 * r + 1
sq_next r =
    let p = add-mul r 1 (r + 1) in
    let q = mul-add r r 1 in
    omega arith

-- The square of twice a number.
pub sq_twice : (r : ℕ) → r * 2 * (r * 2) ≡ 4 * (r * r)
sq_twice r = let e = mul-mul-mul_comm r 2 r 2 in omega arith

-- Squares are in the order of their roots.
pub sq_lt_back : (a b : ℕ) → a * a < b * b → a < b
sq_lt_back a b h = lt_of_not-le (λ (g : b ≤ a). not-le_of_lt h (mul-le-mul g g))

-- From the root of n / 4 to that of n: one digit more.
digit : (n r : ℕ) → Root (n / 4) r → (b : Bool) → leb ((r * 2 + 1) * (r * 2 + 1)) n ≡ b
    → Root n (cond b (r * 2 + 1) (r * 2))
digit n r R true e = record {
  low = leb-true ((r * 2 + 1) * (r * 2 + 1)) n e;
  high =
      let a = sq_next (r * 2 + 1) in
      let b = sq_next (r * 2) in
      let c = sq_twice r in
      let d = sq_next r in
      omega arith;
}
digit n r R false e = record {
  low = let c = sq_twice r in omega arith;
  high = leb-false ((r * 2 + 1) * (r * 2 + 1)) n e;
}

-- Below 4 ^ k, k steps give the whole root.
cut : (k n : ℕ) → n < 4 ^ k → Root n (cut_root k n)
unfolding cut_root
cut zero n h = record { low = omega arith; high = h }
cut (suc k) n h = let r = cut_root k (n / 4) in digit n r (cut k (n / 4) less) (leb ((r * 2 + 1) * (r * 2 + 1)) n) refl
  where
    less : n / 4 < 4 ^ k
    less = let e = pow-succ' 4 k in omega arith

-- A number of k binary digits is below 4 ^ k.
four : (k : ℕ) → 2 ^ k ≤ 4 ^ k
four zero = pow_pos 0
four (suc k) = let a = pow-succ' 2 k in let b = pow-succ' 4 k in let i = four k in omega arith

-- Every n has its whole root.
pub whole : (n : ℕ) → Root n (whole_root n)
unfolding whole_root
whole n = cut (size n) n (lt_of_lt_of_le (size-lt n) (four (size n)))

-- The whole root s of n * p * p, by the whole root r of n.
module _ {n r s : ℕ} (p : ℕ) (R : Root n r) (S : Root (n * (p * p)) s) (pos : 0 < p) where
  -- It is r * p at least,
  pub scaled_low : r * p ≤ s
  scaled_low = let l = sq_lt_back (r * p) (s + 1) (lt_of_le_of_lt below S.high) in omega arith
    where
      below : r * p * (r * p) ≤ n * (p * p)
      below = rw (mul-mul-mul_comm r p r p) (mul-le-mul R.low (le_refl (p * p)))

  -- and below (r + 1) * p.
  pub scaled_high : s < (r + 1) * p
  scaled_high = sq_lt_back s ((r + 1) * p) (lt_of_le_of_lt S.low above)
    where
      above : n * (p * p) < (r + 1) * p * ((r + 1) * p)
      above = rw (mul-mul-mul_comm (r + 1) p (r + 1) p) (mul-lt-mul_of_pos_right R.high (mul-pos pos pos))
