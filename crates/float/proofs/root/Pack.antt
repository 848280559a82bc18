-- `packed`: half of the whole root of E * 2 ^ 54, rounded up, is the digits of the nearest f64. Assumes nothing.
use mathlib.Core.Path.{◌≡◌, refl, sym, ap, ◌∙◌}
use mathlib.Core.Bool.{Bool, true, false, not, cond}
use Prim.Native.Nat.{ℕ, zero, suc, ◌+◌, ◌-◌, ◌*◌, ◌/◌, ◌%◌, ◌^◌, ◌≤◌, ◌<◌}
use native.Mathlib.Nat.{le_trans, le_of_eq, le_antisymm, lt_of_lt_of_le, lt_of_le_of_lt, lt_of_not-le, lt_irrefl}
use native.Mathlib.Nat.{mul-le-mul_right, mul_assoc, mul_left_comm, mul-mul-mul_comm, mul-pos, mul-one, add-mul}
use native.Mathlib.Nat.{eq_of_mul-eq-mul_right, pow-succ'}
use native.Mathlib.Omega.{arith}
use lib.Dec.{T, eqb, eqb→eq}
use lib.Pow.{pow-add, pow_pos, pow_mono, shl_lt}
use lib.Ieee.{binary64, size, odd, units, round, of_bits, nan_bits}
use lib.Ieee.Digits.{size-lt, size-le}
use lib.Ieee.Bits.{nan_bits_is}
use lib.Ieee.Nearest.{closest}
use Rattle.float.specs.Sqrt.{Root, whole_root, nearest_root}
use Rattle.float.proofs.root.Floor.{whole, sq_next, sq_twice, sq_lt_back, scaled_low, scaled_high}
use Rattle.float.proofs.root.Round.{rounds_down, rounds_up, round_at, units_is, odd_more, pattern_is, odd_no_nan}

-- r * p by the half of r and its last digit.
halves : (r p o : ℕ) → r ≡ 2 * (r / 2) + o → r * p ≡ 2 * (r / 2 * p) + o * p
halves r p o e = ap (λ (x : ℕ). x * p) e ∙ add-mul (2 * (r / 2)) o p ∙ ap (λ (x : ℕ). x + o * p) (mul_assoc 2 (r / 2) p)

-- d / 4p, where d is from 2rp up to 2(r + 1)p: for an even r it rounds to r / 2,
at_even : (d r p : ℕ) → r % 2 ≡ 0 → 2 * (r * p) ≤ d → d < 2 * (r * p) + 2 * p → closest d (4 * p) ≡ (r + 1) / 2
at_even d r p o lo hi =
    let h = r / 2 in
    let t = d - h * (4 * p) in
    let e = halves r p 0 (omega arith) in
    let f = mul_left_comm h 4 p in
    let g : d ≡ h * (4 * p) + t = omega arith in
    ap (λ (x : ℕ). closest x (4 * p)) g ∙ rounds_down h (4 * p) t (omega arith) ∙ omega arith

-- and for an odd r, where d is above 2rp, to (r + 1) / 2.
at_odd : (d r p : ℕ) → r % 2 ≡ 1 → 2 * (r * p) < d → d < 2 * (r * p) + 2 * p → closest d (4 * p) ≡ (r + 1) / 2
at_odd d r p o lo hi =
    let h = r / 2 in
    let t = d - h * (4 * p) in
    let e = halves r p 1 (omega arith) in
    let f = mul_left_comm h 4 p in
    let g : d ≡ h * (4 * p) + t = omega arith in
    ap (λ (x : ℕ). closest x (4 * p)) g ∙ rounds_up h (4 * p) t (omega arith) (omega arith) ∙ omega arith

-- An even number is no odd number's square.
pub no_odd_square : (n r : ℕ) → n % 2 ≡ 0 → r % 2 ≡ 1 → r * r ≡ n → ⊥
no_odd_square n r e o k =
    let h = r / 2 in
    let b : r * r ≡ (h * 2 + 1) * (h * 2 + 1) = ap (λ (x : ℕ). x * x) (omega arith) in
    let c = sq_next (h * 2) in
    let d = sq_twice h in
    omega arith

-- What is added is 1 at most.
bit : (b : Bool) → cond b 0 1 ≤ 1
bit true = omega arith
bit false = omega arith

-- The whole root s of n * p * p, by the whole root r of n.
module _ (n r s p : ℕ) (R : Root n r) (S : Root (n * (p * p)) s) (P : 0 < p) where
  -- Its double, with 1 added where something was cut.
  abbrev doubled : ℕ
  doubled = 2 * s + cond (eqb (s * s) (n * (p * p))) 0 1

  -- It is 2rp at least,
  doubled_low : 2 * (r * p) ≤ doubled
  doubled_low = let a = scaled_low p R S P in omega arith

  -- below 2(r + 1)p,
  doubled_high : doubled < 2 * (r * p) + 2 * p
  doubled_high =
      let a = scaled_high p R S P in
      let b = bit (eqb (s * s) (n * (p * p))) in
      let e = add-mul r 1 p in
      omega arith

  -- and its half is s.
  doubled_half : doubled / 2 ≡ s
  doubled_half = let b = bit (eqb (s * s) (n * (p * p))) in omega arith

  -- Where s is r * p and nothing was cut, r is the root of n itself.
  exact : s ≡ r * p → s * s ≡ n * (p * p) → r * r ≡ n
  exact i j =
      eq_of_mul-eq-mul_right (p * p) (mul-pos P P) (r * r) n
      (sym (mul-mul-mul_comm r p r p) ∙ ap (λ (x : ℕ). x * x) (sym i) ∙ j)

  -- For an even n and an odd r it is above 2rp.
  doubled_odd : n % 2 ≡ 0 → r % 2 ≡ 1 → 2 * (r * p) < doubled
  doubled_odd e o = go (eqb (s * s) (n * (p * p))) (eqb→eq (s * s) (n * (p * p)))
    where
      go : (b : Bool) → (T b → s * s ≡ n * (p * p)) → 2 * (r * p) < 2 * s + cond b 0 1
      go true f =
          let a = scaled_low p R S P in
          let z : s ≡ r * p → ⊥ = λ i. no_odd_square n r e o (exact i (f tt)) in
          omega arith
      go false f = let a = scaled_low p R S P in omega arith

  -- For an even n it rounds to half of r, rounded up.
  rounded : n % 2 ≡ 0 → closest doubled (4 * p) ≡ (r + 1) / 2
  rounded e = go (r % 2) refl
    where
      go : (o : ℕ) → r % 2 ≡ o → closest doubled (4 * p) ≡ (r + 1) / 2
      go zero o = at_even doubled r p o doubled_low doubled_high
      go (suc o) i = let j : r % 2 ≡ 1 = omega arith in at_odd doubled r p j (doubled_odd e j) doubled_high

-- The definition, opened.
nearest_root_is : (n : ℕ)
    → nearest_root n ≡ round binary64 false (2 * whole_root n + cond (eqb (whole_root n * whole_root n) n) 0 1) (2 ^ 1075)
unfolding nearest_root
nearest_root_is n = refl

-- Powers of two are in the order of their exponents.
pub pow_lt_back : (i p : ℕ) → 2 ^ i < 2 ^ p → i < p
pow_lt_back i p h = lt_of_not-le (λ (g : p ≤ i). lt_irrefl (2 ^ i) (lt_of_lt_of_le h (pow_mono g)))

-- A number from 2 ^ a up to 2 ^ (a + 1) has a + 1 digits.
size_exact : (a n : ℕ) → 2 ^ a ≤ n → n < 2 ^ suc a → size n ≡ suc a
size_exact a n lo hi = le_antisymm (size-le n (suc a) hi) (pow_lt_back a (size n) (lt_of_le_of_lt lo (size-lt n)))

-- The nearest root of E * 2 ^ 54 * 4 ^ g, for an E of 53 or 54 digits, by the whole root r of E * 2 ^ 54.
module _ (E g r : ℕ) (lo : 2 ^ 52 ≤ E) (hi : E + 2 ≤ 2 ^ 54) (G : g ≤ 1532) (R : Root (E * 2 ^ 54) r) where
  -- r has 54 digits,
  root_low : 2 ^ 53 ≤ r
  root_low = let l = sq_lt_back (2 ^ 53) (r + 1) (lt_of_le_of_lt least R.high) in omega arith
    where
      least : 2 ^ 53 * 2 ^ 53 ≤ E * 2 ^ 54
      least = omega arith

  -- not all of them ones.
  root_high : r < 2 ^ 54 - 1
  root_high = sq_lt_back r (2 ^ 54 - 1) (lt_of_le_of_lt R.low most)
    where
      most : E * 2 ^ 54 < (2 ^ 54 - 1) * (2 ^ 54 - 1)
      most = omega arith

  abbrev q : ℕ
  q = (r + 1) / 2

  -- Half of it, rounded up, has 53.
  q_low : 2 ^ 52 ≤ q
  q_low = let a = root_low in omega arith

  q_high : q < 2 ^ 53
  q_high = let a = root_high in omega arith

  abbrev X : ℕ
  X = E * 2 ^ 54 * (2 ^ g * 2 ^ g)

  -- The whole root of all of it has g digits more than r.
  X-size : size (whole_root X) ≡ 53 + suc g
  X-size = size_exact (53 + g) (whole_root X) low high ∙ omega arith
    where
      low : 2 ^ (53 + g) ≤ whole_root X
      low =
          le_trans (le_of_eq (pow-add 2 53 g))
          (le_trans (mul-le-mul_right (2 ^ g) root_low) (scaled_low (2 ^ g) R (whole X) (pow_pos g)))

      high : whole_root X < 2 ^ suc (53 + g)
      high =
          let a : r + 1 ≤ 2 ^ 54 = (let b = root_high in omega arith) in
          let e : 54 + g ≡ suc (53 + g) = omega arith in
          lt_of_lt_of_le (scaled_high (2 ^ g) R (whole X) (pow_pos g))
          (le_trans (mul-le-mul_right (2 ^ g) a) (le_of_eq (sym (pow-add 2 54 g) ∙ ap (λ (x : ℕ). 2 ^ x) e)))

  -- The digits q at that exponent are the nearest root.
  value_is : odd 53 false q (suc g) 1074 ≡ nearest_root X
  value_is =
      let d = doubled (E * 2 ^ 54) r (whole_root X) (2 ^ g) R (whole X) (pow_pos g) in
      let half = doubled_half (E * 2 ^ 54) r (whole_root X) (2 ^ g) R (whole X) (pow_pos g) in
      let near = rounded (E * 2 ^ 54) r (whole_root X) (2 ^ g) R (whole X) (pow_pos g) (omega arith) in
      let two : 2 ^ suc (suc g) ≡ 4 * 2 ^ g = (let a = pow-succ' 2 (suc g) in let b = pow-succ' 2 g in omega arith) in
      let pos : 0 < q = (let a = q_low in omega arith) in
      let room : 53 + suc g ≤ 2098 = omega arith in
      sym (odd_more 53 false q (suc g) 1074 pos q_high)
      ∙ sym (units_is q (suc g) (lt_of_lt_of_le (shl_lt 53 (suc g) q_high) (pow_mono room)))
      ∙ ap (λ (x : ℕ). units binary64 false x (suc g)) (sym (ap (closest d) two ∙ near))
      ∙ sym (round_at d (suc g) (ap size half ∙ X-size))
      ∙ sym (nearest_root_is X)

-- What `packed` asks of m and n.
abbrev pub Packs : ℕ → ℕ → Type 0
Packs m n = (2 ^ 52 ≤ m) × (m < 2 ^ 53) × (972 ≤ n) × (n < 3070)

-- E is m, or twice m where n is odd: m * 2 ^ (n + 50) is E * 2 ^ 54 * 4 ^ (n / 2 - 2).
pub record Even (m n E : ℕ) : Type 0 where
  pub packs : Packs m n
  pub low : 2 ^ 52 ≤ E
  pub high : E + 2 ≤ 2 ^ 54
  pub value : E * 2 ^ 54 * (2 ^ (n / 2 - 2) * 2 ^ (n / 2 - 2)) ≡ m * 2 ^ (n + 50)

-- The powers of two, gathered.
scale : (m n a g : ℕ) → a + (54 + (g + g)) ≡ n + 50 → m * 2 ^ a * 2 ^ 54 * (2 ^ g * 2 ^ g) ≡ m * 2 ^ (n + 50)
scale m n a g e =
    mul_assoc (m * 2 ^ a) (2 ^ 54) (2 ^ g * 2 ^ g)
    ∙ mul_assoc m (2 ^ a) (2 ^ 54 * (2 ^ g * 2 ^ g))
    ∙ rw (← e, pow-add 2 a (54 + (g + g)), pow-add 2 54 (g + g), pow-add 2 g g)

-- Twice m for an odd n.
pub twice : (m n E : ℕ) → Packs m n → n % 2 ≡ 1 → E ≡ m * 2 → Even m n E
twice m n E p o e = record {
  packs = p;
  low = omega arith;
  high = omega arith;
  value =
      ap (λ (x : ℕ). x * 2 ^ 54 * (2 ^ (n / 2 - 2) * 2 ^ (n / 2 - 2))) e
      ∙ scale m n 1 (n / 2 - 2) (omega arith);
}

-- m itself for an even n.
pub once : (m n E : ℕ) → Packs m n → (n % 2 ≡ 1 → ⊥) → E ≡ m → Even m n E
once m n E p o e = record {
  packs = p;
  low = omega arith;
  high = omega arith;
  value =
      ap (λ (x : ℕ). x * 2 ^ 54 * (2 ^ (n / 2 - 2) * 2 ^ (n / 2 - 2))) (e ∙ sym (mul-one m))
      ∙ scale m n 0 (n / 2 - 2) (omega arith);
}

-- What `packed` makes of the whole root r of E * 2 ^ 54.
module _ {m n E r : ℕ} (e : Even m n E) (R : Root (E * 2 ^ 54) r) where
  -- The exponent is in range,
  gap : n / 2 - 2 ≤ 1532
  gap = let p = e.packs in omega arith

  -- and its field is one more than g.
  field : n / 2 - 1 ≡ suc (n / 2 - 2)
  field = let p = e.packs in omega arith

  -- The whole root has 54 digits, not all of them ones,
  pub short : r < 2 ^ 54 - 1
  short = root_high E (n / 2 - 2) r e.low e.high gap R

  -- so that half of it, rounded up, has 53,
  pub digits : (2 ^ 52 ≤ (r + 1) / 2) × ((r + 1) / 2 < 2 ^ 53)
  digits = (q_low E (n / 2 - 2) r e.low e.high gap R, q_high E (n / 2 - 2) r e.low e.high gap R)

  -- which are those of the nearest root.
  pub nearest_is : odd 53 false ((r + 1) / 2) (n / 2 - 1) 1074 ≡ nearest_root (m * 2 ^ (n + 50))
  nearest_is =
      ap (λ (k : ℕ). odd 53 false ((r + 1) / 2) k 1074) field
      ∙ value_is E (n / 2 - 2) r e.low e.high gap R
      ∙ ap nearest_root e.value

  -- The bits that `packed` makes are its bits,
  pub bits_are : of_bits binary64 ((n / 2 - 1) * 2 ^ 52 + (r + 1) / 2) ≡ odd 53 false ((r + 1) / 2) (n / 2 - 1) 1074
  bits_are = let p = e.packs in pattern_is ((r + 1) / 2) (n / 2 - 1) digits.0 digits.1 (omega arith)

  -- and no NaN's.
  pub no_nan : T (not (nan_bits binary64 ((n / 2 - 1) * 2 ^ 52 + (r + 1) / 2)))
  no_nan = rw (nan_bits_is, bits_are, odd_no_nan 53 false ((r + 1) / 2) (n / 2 - 1) 1074) tt
