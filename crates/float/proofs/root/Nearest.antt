-- What `sqrtOf` means: of each finite f64 above zero it is the f64 nearest to the root. Assumes nothing.
use mathlib.Core.Path.{◌≡◌, refl, sym, ap, ◌∙◌, subst}
use mathlib.Core.Bool.{true, false}
use Prim.Native.Nat.{ℕ, zero, suc, ◌+◌, ◌-◌, ◌*◌, ◌/◌, ◌%◌, ◌^◌, ◌≤◌, ◌<◌}
use native.Mathlib.Nat.{lt_of_lt_of_le, mul-le-mul, mul-le-mul_right, mul-lt-mul_of_pos_right, mul_assoc, mul_left_comm}
use native.Mathlib.Nat.{mul-mul-mul_comm, mul-pos, pow-succ'}
use native.Mathlib.Omega.{arith}
use lib.Dec.{T}
use lib.Pow.{pow_pos}
use lib.Ieee.{Float, nan, inf, fin, binary64, fits, to_bits}
use lib.Ieee.Exact.{HasValue, odd_sign}
use lib.Ieee.Positive.{positive, above}
use Rattle.float.specs.Sqrt.{Root, whole_root, sqrt_of, NearestRoot}
use Rattle.float.proofs.root.Floor.{whole, sq_next}
use Rattle.float.proofs.root.Pack.{Packs, Even, twice, once, no_odd_square, digits, nearest_is}
use Rattle.float.proofs.root.Split.{Split, split_root, at_top, at_sub, at_normal}

-- ---- q, half of the whole root r of an even n, rounded up, against √n

module _ (n r : ℕ) (e : n % 2 ≡ 0) (R : Root n r) where
  abbrev q : ℕ
  q = (r + 1) / 2

  -- For an even r, half-way below q lies under √n.
  over_even : r % 2 ≡ 0 → 0 < r → (2 * q - 1) * (2 * q - 1) < n
  over_even o p =
      let i : r ≡ 2 * q - 1 + 1 = omega arith in
      let s : r * r ≡ (2 * q - 1 + 1) * (2 * q - 1 + 1) = ap (λ (x : ℕ). x * x) i in
      let t = sq_next (2 * q - 1) in
      let l = R.low in
      omega arith

  -- For an odd r too, since √n is not r itself.
  over_odd : r % 2 ≡ 1 → (2 * q - 1) * (2 * q - 1) < n
  over_odd o =
      let i : 2 * q - 1 ≡ r = omega arith in
      let s : (2 * q - 1) * (2 * q - 1) ≡ r * r = ap (λ (x : ℕ). x * x) i in
      let z : r * r ≡ n → ⊥ = no_odd_square n r e o in
      let l = R.low in
      omega arith

  -- So half-way below q lies under √n,
  over : 0 < r → (2 * q - 1) * (2 * q - 1) < n
  over p = go (r % 2) refl
    where
      go : (o : ℕ) → r % 2 ≡ o → (2 * q - 1) * (2 * q - 1) < n
      go zero o = over_even o p
      go (suc o) i = over_odd (omega arith)

  -- and half-way above q lies over it.
  under : n < (2 * q + 1) * (2 * q + 1)
  under = let l : r + 1 ≤ 2 * q + 1 = omega arith in lt_of_lt_of_le R.high (mul-le-mul l l)

-- ---- the same after a shift by g pairs of digits

-- A power of 4 is the square of a power of 2.
four_pow : (g : ℕ) → 4 ^ g ≡ 2 ^ g * 2 ^ g
four_pow zero = refl
four_pow (suc g) =
    pow-succ' 4 g
    ∙ ap (λ (x : ℕ). 4 * x) (four_pow g)
    ∙ mul-mul-mul_comm 2 2 (2 ^ g) (2 ^ g)
    ∙ ap (λ (x : ℕ). x * x) (sym (pow-succ' 2 g))

-- One pair of digits more is a factor of 4.
shifted : (E g j N : ℕ) → j ≡ suc g → E * (2 ^ g * 2 ^ g) ≡ N → E * 4 ^ j ≡ 4 * N
shifted E g j N i e =
    ap (λ (k : ℕ). E * 4 ^ k) i
    ∙ ap (λ (x : ℕ). E * x) (pow-succ' 4 g ∙ ap (λ (x : ℕ). 4 * x) (four_pow g))
    ∙ mul_left_comm E 4 (2 ^ g * 2 ^ g)
    ∙ ap (λ (x : ℕ). 4 * x) e

-- A power of 4 is above zero.
four_pos : (j : ℕ) → 0 < 4 ^ j
four_pos j = subst (λ (x : ℕ). 0 < x) (sym (four_pow j)) (mul-pos (pow_pos j) (pow_pos j))

-- ---- the theorem

-- E is there for every m and n.
even_of : (m n : ℕ) → Packs m n → (E : ℕ) × Even m n E
even_of m n p = go (n % 2) refl
  where
    go : (o : ℕ) → n % 2 ≡ o → (E : ℕ) × Even m n E
    go zero o = (m, once m n m p (omega arith) refl)
    go (suc o) i = (m * 2, twice m n (m * 2) p (omega arith) refl)

-- The theorem for an x as `packed` takes it.
of_split : {x : Float} {m n : ℕ} → Split x m n → NearestRoot x (sqrt_of x)
of_split {x} {m} {n} s =
    let P = s.packs in
    let E = (even_of m n P).0 in
    let e = (even_of m n P).1 in
    let N = E * 2 ^ 54 in
    let r = whole_root N in
    let R = whole N in
    let j = n / 2 - 1 in
    let d = digits e R in
    let even : N % 2 ≡ 0 = omega arith in
    let large : 4 * 2 ^ 104 ≤ N = omega arith in
    let back : j ≡ suc (n / 2 - 2) = omega arith in
    let is : N * 4 ^ j ≡ 4 * (m * 2 ^ (n + 50)) = shifted N (n / 2 - 2) j (m * 2 ^ (n + 50)) back e.value in
    record {
      n = m * 2 ^ (n + 50);
      q = (r + 1) / 2;
      j = j;
      argument = s.value;
      result =
          subst (λ (w : Float). HasValue w false ((r + 1) / 2 * 2 ^ j) (2 ^ 1074)) (nearest_is e R ∙ sym (split_root s))
          (odd_sign 53 false ((r + 1) / 2) j 1074);
      normal = d;
      range = omega arith;
      least =
          let l = mul-le-mul_right (4 ^ j) large in
          let a = mul_assoc 4 (2 ^ 104) (4 ^ j) in
          omega arith;
      over = rw is at (mul-lt-mul_of_pos_right (over N r even R (omega arith)) (four_pos j));
      under = rw is at (mul-lt-mul_of_pos_right (under N r even R) (four_pos j));
    }

-- What is finite and above zero is above zero.
positive_above : (x : Float) → T (positive x) → T (above x)
positive_above nan p = p
positive_above (inf s) p = absurd p
positive_above (fin true m e) p = p
positive_above (fin false m e) p = p

-- The root of every finite f64 above zero is the nearest f64.
pub sqrt_nearest : (x : Float) → T (fits binary64 x) → T (positive x) → NearestRoot x (sqrt_of x)
sqrt_nearest x F P = go (to_bits binary64 x / 2 ^ 52) refl
  where
    A : T (above x)
    A = positive_above x P

    not_top : to_bits binary64 x / 2 ^ 52 ≡ 2047 → ⊥
    not_top e = subst (λ (w : Float). T (positive w)) (at_top x F A e) P

    go : (f : ℕ) → to_bits binary64 x / 2 ^ 52 ≡ f → NearestRoot x (sqrt_of x)
    go zero e = of_split (at_sub x F A e).split
    go (suc f) e = of_split (at_normal x F A not_top (omega arith))
