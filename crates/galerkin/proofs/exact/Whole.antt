-- Whole numbers as floats: a sum of whole numbers and half plus half of one are exact where they are at most 2 ^ 53 in size.
-- Assumes nothing.
use mathlib.Core.Path.{◌≡◌, refl, sym, ap, ◌∙◌, subst}
use mathlib.Core.Bool.{Bool, true, false, not, ◌&&◌, beq, cond}
use mathlib.Core.Logic.{◌⊎◌, inl, inr, ⊎_elim}
use Prim.Native.Nat.{ℕ, zero, suc, ◌+◌, ◌-◌, ◌*◌, ◌^◌, ◌≤◌, ◌<◌}
use native.Mathlib.Nat.{mul-one, one-mul, mul_comm, mul_assoc, mul_right_comm, add-mul, mul-pos, mul-le-mul_right, mul-lt-mul_of_pos_right, eq-or-lt_of_le, add-zero, zero-mul, lt_of_lt_of_le}
use native.Mathlib.Omega.{arith}
use lib.Dec.{ltb, lit<, lit≤}
use borrow.Author.Tests.{lt-ltb, le-ltb}
use lib.IntN.{ℤ, pos, negsuc, nat_abs, ◌+ℤ◌, sub_ℕ, +ℤ_idr}
use lib.Pow.{pow-add, pow_mono, shl_lt}
use lib.Ieee.{Float, nan, inf, fin, Format, binary64, prec, up, down, round, sum, add, mul, of_int, of_bits, unlike}
use lib.Ieee.Fits.{down_pos}
use lib.Ieee.Exact.{HasValue, round_exact}
use lib.Ieee.Scale.{round_same}
use lib.Ieee.Back.{round_whole}
use Rattle.store.proofs.store.Region.{le_or_lt}
use Rattle.float.specs.Float.{zero64}
use Rattle.galerkin.specs.Whole.{signed, Whole, half}

-- ---- a sum of fractions with one denominator c

below_scale : (a b c : ℕ) → 0 < c → ltb (a * c) (b * c) ≡ ltb a b
below_scale a b c p =
    ⊎_elim
    (λ (h : b ≤ a). le-ltb (a * c) (b * c) (mul-le-mul_right c h) ∙ sym (le-ltb a b h))
    (λ (h : a < b). lt-ltb (a * c) (b * c) (mul-lt-mul_of_pos_right h p) ∙ sym (lt-ltb a b h))
    (le_or_lt b a)

sub_scale : (a b c : ℕ) → (a * c - b * c) * 1 ≡ (a - b) * c
sub_scale a b c = mul-one (a * c - b * c) ∙ ⊎_elim
    (λ (h : a ≤ b).
    let k : a * c ≤ b * c = mul-le-mul_right c h in
    let e : a * c - b * c ≡ 0 = omega arith in
    let g : a - b ≡ 0 = omega arith in
    e ∙ sym (ap (λ (x : ℕ). x * c) g ∙ zero-mul c))
    (λ (h : b < a).
    let e : a - b + b ≡ a = omega arith in
    let g : (a - b) * c + b * c ≡ a * c = sym (add-mul (a - b) b c) ∙ ap (λ (x : ℕ). x * c) e in
    omega arith)
    (le_or_lt a b)

sum_scale : (f : Format) (s t : Bool) (a b c : ℕ) → 0 < c → sum f s (a * c) t (b * c) c ≡ sum f s a t b 1
unfolding sum
sum_scale f s t a b c p =
    let one : 0 < 1 = omega arith in
    let e₁ : round f s (a * c + b * c) c ≡ round f s (a + b) 1 = round_same f s (a * c + b * c) c (a + b) 1 p one (mul-one (a * c + b * c) ∙ sym (add-mul a b c)) in
    let e₂ : round f t (b * c - a * c) c ≡ round f t (b - a) 1 = round_same f t (b * c - a * c) c (b - a) 1 p one (sub_scale b a c) in
    let e₃ : round f (s && ltb b a) (a * c - b * c) c ≡ round f (s && ltb b a) (a - b) 1 = round_same f (s && ltb b a) (a * c - b * c) c (a - b) 1 p one (sub_scale a b c) in
    rw (below_scale a b c p, below_scale b a c p, e₁, e₂, e₃)

-- the sum of two whole numbers sees only their signs and sizes
add_val : (f : Format) (x y : Float) (s t : Bool) (a b : ℕ) → HasValue x s a 1 → HasValue y t b 1 → add f x y ≡ sum f s a t b 1
unfolding add
add_val f nan y s t a b v w = absurd v
add_val f (inf r) y s t a b v w = absurd v
add_val f (fin s' m e) nan s t a b v w = absurd w
add_val f (fin s' m e) (inf r) s t a b v w = absurd w
add_val f (fin s' m e) (fin t' n d) s t a b v w =
    let c = down e * down d in
    let p : m * up e * down d ≡ a * c = ap (λ (z : ℕ). z * down d) (sym (mul-one (m * up e)) ∙ v.1) ∙ mul_assoc a (down e) (down d) in
    let q : n * up d * down e ≡ b * c = ap (λ (z : ℕ). z * down e) (sym (mul-one (n * up d)) ∙ w.1) ∙ mul_right_comm b (down d) (down e) ∙ mul_assoc b (down e) (down d) in
    rw (v.0, w.0, p, q) (sum_scale f s t a b c (mul-pos (down_pos e) (down_pos d)))

-- ---- the sum as an integer

abbrev sign_of : ℤ → Bool
sign_of (pos n) = false
sign_of (negsuc n) = true

of_int_round : (f : Format) (z : ℤ) → of_int f z ≡ round f (sign_of z) (nat_abs z) 1
unfolding of_int
of_int_round f (pos n) = refl
of_int_round f (negsuc n) = refl

-- an integer of at most 2 ^ 53 in size as a float has its value
of_int_val : (f : Format) (z : ℤ) → nat_abs z ≤ 2 ^ prec f → HasValue (of_int f z) (sign_of z) (nat_abs z) 1
of_int_val f z h = subst (λ (x : Float). HasValue x (sign_of z) (nat_abs z) 1) (sym (of_int_round f z)) (round_whole f (sign_of z) (nat_abs z) h)

-- a cond of integers under of_int
of_int_sub_lt : (f : Format) (a b : ℕ) → a < b → of_int f (sub_ℕ a b) ≡ round f true (b - a) 1
of_int_sub_lt f a b h =
    ap (λ (c : Bool). of_int f (cond c (negsuc (b - suc a)) (pos (a - b)))) (lt-ltb a b h)
    ∙ of_int_round f (negsuc (b - suc a))
    ∙ ap (λ (n : ℕ). round f true n 1) (omega arith)

of_int_sub_ge : (f : Format) (a b : ℕ) → b ≤ a → of_int f (sub_ℕ a b) ≡ round f false (a - b) 1
of_int_sub_ge f a b h =
    ap (λ (c : Bool). of_int f (cond c (negsuc (b - suc a)) (pos (a - b)))) (le-ltb a b h)
    ∙ of_int_round f (pos (a - b))

sum_alike : (f : Format) (s : Bool) (a b : ℕ) → sum f s a s b 1 ≡ round f s (a + b) 1
unfolding sum
sum_alike f true a b = refl
sum_alike f false a b = refl

sum_lt : (f : Format) (s : Bool) (a b : ℕ) → a < b → sum f s a (not s) b 1 ≡ round f (not s) (b - a) 1
unfolding sum
sum_lt f true a b h = ap (λ (c : Bool). cond c (round f false (b - a) 1) (round f (true && ltb b a) (a - b) 1)) (lt-ltb a b h)
sum_lt f false a b h = ap (λ (c : Bool). cond c (round f true (b - a) 1) (round f (false && ltb b a) (a - b) 1)) (lt-ltb a b h)

sum_ge : (f : Format) (s : Bool) (a b : ℕ) → b ≤ a → sum f s a (not s) b 1 ≡ round f (s && ltb b a) (a - b) 1
unfolding sum
sum_ge f true a b h = ap (λ (c : Bool). cond c (round f false (b - a) 1) (round f (true && ltb b a) (a - b) 1)) (le-ltb a b h)
sum_ge f false a b h = ap (λ (c : Bool). cond c (round f true (b - a) 1) (round f (false && ltb b a) (a - b) 1)) (le-ltb a b h)

-- a + -b
sum_down : (f : Format) (a b : ℕ) → sum f false a true b 1 ≡ of_int f (sub_ℕ a b)
sum_down f a b = ⊎_elim
    (λ (h : b ≤ a). sum_ge f false a b h ∙ sym (of_int_sub_ge f a b h))
    (λ (h : a < b). sum_lt f false a b h ∙ sym (of_int_sub_lt f a b h))
    (le_or_lt b a)

-- -a + b
sum_up : (f : Format) (a b : ℕ) → sum f true a false b 1 ≡ of_int f (sub_ℕ b a)
sum_up f a b = ⊎_elim
    (λ (h : b ≤ a). sum_ge f true a b h ∙ ⊎_elim
    (λ (k : a ≤ b).
    let e : a - b ≡ b - a = omega arith in
    ap (λ (c : Bool). round f c (a - b) 1) (le-ltb b a k) ∙ ap (λ (n : ℕ). round f false n 1) e ∙ sym (of_int_sub_ge f b a k))
    (λ (k : b < a). ap (λ (c : Bool). round f c (a - b) 1) (lt-ltb b a k) ∙ sym (of_int_sub_lt f b a k))
    (le_or_lt a b))
    (λ (h : a < b). sum_lt f true a b h ∙ sym (of_int_sub_ge f b a (omega arith)))
    (le_or_lt b a)

sub_zero : (a : ℕ) → sub_ℕ a 0 ≡ pos a
sub_zero a = ap (λ (c : Bool). cond c (negsuc (0 - suc a)) (pos (a - 0))) (le-ltb a 0 (omega arith)) ∙ ap pos (omega arith)

sum_int : (f : Format) (z : ℤ) (t : Bool) (b : ℕ) → sum f (sign_of z) (nat_abs z) t b 1 ≡ of_int f (z +ℤ signed t b)
sum_int f (pos a) false b = sum_alike f false a b ∙ sym (of_int_round f (pos (a + b)))
sum_int f (pos a) true zero = sum_down f a 0 ∙ ap (of_int f) (sub_zero a ∙ ap pos (sym (add-zero a)))
sum_int f (pos a) true (suc k) = sum_down f a (suc k)
sum_int f (negsuc a) false b = sum_up f (suc a) b
sum_int f (negsuc a) true zero = sum_alike f true (suc a) 0 ∙ sym (ap (of_int f) (+ℤ_idr (negsuc a)) ∙ of_int_round f (negsuc a) ∙ ap (λ (n : ℕ). round f true n 1) (sym (add-zero (suc a))))
sum_int f (negsuc a) true (suc k) = sum_alike f true (suc a) (suc k) ∙ ap (λ (n : ℕ). round f true n 1) (omega arith) ∙ sym (of_int_round f (negsuc (suc (a + k))))

-- a whole number more: the float sum is the integer sum, rounded once
pub add_whole : (f : Format) (z : ℤ) (x : Float) (w : ℤ) → nat_abs z ≤ 2 ^ prec f → Whole x w → add f (of_int f z) x ≡ of_int f (z +ℤ w)
add_whole f z x w h v =
    add_val f (of_int f z) x (sign_of z) v.sign (nat_abs z) v.size (of_int_val f z h) v.value
    ∙ sum_int f z v.sign v.size
    ∙ ap (λ (y : ℤ). of_int f (z +ℤ y)) (sym v.is)

-- ---- half plus half

half_is : half ≡ fin false 1 (negsuc 0)
unfolding of_bits
half_is = refl

half_small : (s : Bool) (a : ℕ) → a < 2 ^ 53 → HasValue (round binary64 s a 2) s a 2
half_small s a h = round_exact binary64 s a 2 a 1073 (lit< tt) h
    (lt_of_lt_of_le (shl_lt 53 1073 h) (pow_mono {i = 53 + 1073} {j = 1074 + 1024} (lit≤ tt)))
    (ap (λ (x : ℕ). a * x) (pow-add 2 1073 1) ∙ sym (mul_assoc a (2 ^ 1073) 2))

half_top : (s : Bool) → HasValue (round binary64 s (2 ^ 53) 2) s (2 ^ 53) 2
half_top s = round_exact binary64 s (2 ^ 53) 2 1 1126 (lit< tt) (lit< tt) (lit< tt) refl

half_val : (s : Bool) (a : ℕ) → a ≤ 2 ^ 53 → HasValue (round binary64 s a 2) s a 2
half_val s a h = go (eq-or-lt_of_le h)
  where
    go : (a ≡ 2 ^ 53) ⊎ (a < 2 ^ 53) → HasValue (round binary64 s a 2) s a 2
    go (inl e) = subst (λ (x : ℕ). HasValue (round binary64 s x 2) s x 2) (sym e) (half_top s)
    go (inr l) = half_small s a l

unlike_false : (s : Bool) → unlike false s ≡ s
unlike_false true = refl
unlike_false false = refl

-- half of a whole number
mul_half : (x : Float) (s : Bool) (a : ℕ) → HasValue x s a 1 → mul binary64 (fin false 1 (negsuc 0)) x ≡ round binary64 s a 2
unfolding mul
mul_half nan s a v = absurd v
mul_half (inf r) s a v = absurd v
mul_half (fin s' m e) s a v =
    let p : m * up e ≡ a * down e = sym (mul-one (m * up e)) ∙ v.1 in
    let q : 1 * 1 * (m * up e) * 2 ≡ a * (2 ^ 1 * down e) = ap (λ (z : ℕ). z * 2) (one-mul (m * up e) ∙ p) ∙ mul_assoc a (down e) 2 ∙ ap (λ (z : ℕ). a * z) (mul_comm (down e) 2) in
    ap (λ (r : Bool). round binary64 r (1 * 1 * (m * up e)) (2 ^ 1 * down e)) (unlike_false s' ∙ v.0)
    ∙ round_same binary64 s (1 * 1 * (m * up e)) (2 ^ 1 * down e) a 2 (mul-pos (lit< tt) (down_pos e)) (lit< tt) q

-- a fraction with the denominator 2, twice
add_twice : (x : Float) (s : Bool) (a : ℕ) → HasValue x s a 2 → add binary64 x x ≡ round binary64 s a 1
unfolding add sum
add_twice nan s a v = absurd v
add_twice (inf r) s a v = absurd v
add_twice (fin s' m e) s a v =
    let n = m * up e * down e in
    let c = down e * down e in
    let k : n * 2 ≡ a * c = mul_right_comm (m * up e) (down e) 2 ∙ ap (λ (z : ℕ). z * down e) v.1 ∙ mul_assoc a (down e) (down e) in
    let q : (n + n) * 1 ≡ a * c = mul-one (n + n) ∙ omega arith in
    alike s' (round binary64 s' (n + n) c) (cond (ltb n n) (round binary64 s' (n - n) c) (round binary64 (s' && ltb n n) (n - n) c))
    ∙ ap (λ (r : Bool). round binary64 r (n + n) c) v.0
    ∙ round_same binary64 s (n + n) c a 1 (mul-pos (down_pos e) (down_pos e)) (lit< tt) q
  where
    alike : (b : Bool) (x y : Float) → cond (beq b b) x y ≡ x
    alike true x y = refl
    alike false x y = refl

-- half plus half of a whole number is that number
pub halves : (z : ℤ) → nat_abs z ≤ 2 ^ 53 → add binary64 (mul binary64 half (of_int binary64 z)) (mul binary64 half (of_int binary64 z)) ≡ of_int binary64 z
halves z h =
    let s = sign_of z in
    let a = nat_abs z in
    let e : mul binary64 half (of_int binary64 z) ≡ round binary64 s a 2 = ap (λ (y : Float). mul binary64 y (of_int binary64 z)) half_is ∙ mul_half (of_int binary64 z) s a (of_int_val binary64 z h) in
    ap (λ (y : Float). add binary64 y y) e ∙ add_twice (round binary64 s a 2) s a (half_val s a h) ∙ sym (of_int_round binary64 z)

-- ---- sizes of sums

nat_abs_sub : (a b : ℕ) → nat_abs (sub_ℕ a b) ≤ a + b
nat_abs_sub a b = ⊎_elim
    (λ (h : b ≤ a). subst (λ (c : Bool). nat_abs (cond c (negsuc (b - suc a)) (pos (a - b))) ≤ a + b) (sym (le-ltb a b h)) (omega arith))
    (λ (h : a < b). subst (λ (c : Bool). nat_abs (cond c (negsuc (b - suc a)) (pos (a - b))) ≤ a + b) (sym (lt-ltb a b h)) (omega arith))
    (le_or_lt b a)

pub nat_abs_add : (z w : ℤ) → nat_abs (z +ℤ w) ≤ nat_abs z + nat_abs w
nat_abs_add (pos a) (pos b) = omega arith
nat_abs_add (pos a) (negsuc b) = nat_abs_sub a (suc b)
nat_abs_add (negsuc a) (pos b) = omega (arith, nat_abs_sub b (suc a))
nat_abs_add (negsuc a) (negsuc b) = omega arith

-- Plus zero is the whole number 0.
pub zero_is : zero64 ≡ of_int binary64 (pos 0)
unfolding of_bits of_int
zero_is = refl

-- A whole number of at most 2 ^ 53 in size is a float.
pub of_int_whole : (z : ℤ) → nat_abs z ≤ 2 ^ 53 → Whole (of_int binary64 z) z
of_int_whole z h = record { sign = sign_of z; size = nat_abs z; value = of_int_val binary64 z h; is = signed_is z }
  where
    signed_is : (y : ℤ) → y ≡ signed (sign_of y) (nat_abs y)
    signed_is (pos n) = refl
    signed_is (negsuc n) = refl
