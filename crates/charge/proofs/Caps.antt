-- Sums and products of numbers that stop at the largest of 64 bits stop there too.
-- Assumes nothing.
use mathlib.Core.Path.{◌≡◌}
use mathlib.Core.Logic.{⊎_elim}
use Prim.Native.Nat.{ℕ, zero, suc, ◌+◌, ◌*◌, ◌≤◌, ◌<◌}
use native.Mathlib.Nat.{mul-le-mul, mul_comm}
use native.Mathlib.Omega.{arith}
use Rattle.store.proofs.store.Region.{le_or_lt}
use Rattle.charge.specs.Charge.{capped}

-- A product with a number above zero is no smaller.
grows : (n a : ℕ) → 1 ≤ n → a ≤ n * a
grows n a h = let z = mul-le-mul {n₁ = 1} {m₁ = a} {n₂ = n} {m₂ = a} h (omega arith) in omega arith

-- A product may be cut before or after.
pub cut_right : (n a : ℕ) → capped (n * capped a) ≡ capped (n * a)
cut_right zero a = omega arith
cut_right (suc k) a = ⊎_elim
    (λ (s : a ≤ 18446744073709551615). let e : capped a ≡ a = omega arith in rw e)
    (λ (s : 18446744073709551615 < a).
    let e : capped a ≡ 18446744073709551615 = omega arith in
    rw e (let g = grows (suc k) a (omega arith) in omega arith))
    (le_or_lt a 18446744073709551615)

-- The same of its other factor.
pub cut_left : (a n : ℕ) → capped (capped a * n) ≡ capped (a * n)
cut_left a n = rw (mul_comm (capped a) n, mul_comm a n) (cut_right n a)

-- A fixed charge and that of so many levels, each cut.
pub cut_levels : (fixed level n : ℕ) {f l r : ℕ} → f ≡ capped fixed → l ≡ capped level → r ≡ capped (f + n * l) → r ≡ capped (fixed + n * level)
cut_levels fixed level n {f} {l} {r} ef el er =
    let m : capped (n * l) ≡ capped (n * level) = rw el (cut_right n level) in
    omega arith

-- A price whose rate for a row and whose rest are cut.
pub cut_price : (rate besides rows rest : ℕ) {v b r : ℕ} → v ≡ capped rate → b ≡ capped besides → r ≡ capped (v * rows + rest + b)
    → r ≡ capped (rate * rows + rest + besides)
cut_price rate besides rows rest {v} {b} {r} ev eb er =
    let m : capped (v * rows) ≡ capped (rate * rows) = rw ev (cut_left rate rows) in
    omega arith
