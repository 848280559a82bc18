-- Laws of `each`, the test of every index: what it tells, a loop in code that leaves at the first index that fails, and one that tests them all.
-- Assumes nothing.
use mathlib.Core.Path.{◌≡◌, refl, sym}
use mathlib.Core.Bool.{Bool, true, false, ◌&&◌}
use mathlib.Core.Logic.{⊎_elim}
use Prim.Native.Nat.{ℕ, zero, suc, ◌+◌, ◌≤◌, ◌<◌}
use native.Mathlib.Nat.{not-suc-le-zero}
use native.Mathlib.Numerals.{add-one}
use native.Mathlib.Omega.{arith}
use Rattle.store.specs.Vector.{each}
use Rattle.store.proofs.store.Region.{le_or_lt}

-- The first of two tests that hold together.
pub both_l : (a b : Bool) → a && b ≡ true → a ≡ true
both_l true b e = refl
both_l false b e = e

-- The second of two tests that hold together.
pub both_r : (a b : Bool) → a && b ≡ true → b ≡ true
both_r true b e = e
both_r false true e = refl
both_r false false e = e

both_not : (a b : Bool) → b ≡ false → a && b ≡ false
both_not true b e = e
both_not false b e = refl

-- What holds of every index holds of each.
pub each_all : (p : ℕ → Bool) (n : ℕ) → ((k : ℕ) → k < n → p k ≡ true) → each p n ≡ true
unfolding each
each_all p zero h = refl
each_all p (suc n) h = rw (each_all p n (λ k l. h k (omega arith)), h n (omega arith))

-- What holds of each index below n holds of k.
pub each_at : (p : ℕ → Bool) (n : ℕ) → each p n ≡ true → (k : ℕ) → k < n → p k ≡ true
unfolding each
each_at p zero e k h = absurd (not-suc-le-zero h)
each_at p (suc n) e k h =
    ⊎_elim (λ (q : n ≤ k). let z : k ≡ n = omega arith in rw z (both_r (each p n) (p n) e)) (λ q. each_at p n (both_l (each p n) (p n) e) k q) (le_or_lt n k)

-- One index that fails fails the whole.
pub each_no : (p : ℕ → Bool) (n k : ℕ) → k < n → p k ≡ false → each p n ≡ false
unfolding each
each_no p zero k h e = absurd (not-suc-le-zero h)
each_no p (suc n) k h e =
    ⊎_elim (λ (q : n ≤ k). let z : k ≡ n = omega arith in both_not (each p n) (p n) (rw z at e)) (λ q. rw (each_no p n k q e)) (le_or_lt n k)

-- Tests that agree below n agree as a whole.
pub each_same : (p q : ℕ → Bool) (n : ℕ) → ((k : ℕ) → k < n → p k ≡ q k) → each p n ≡ each q n
unfolding each
each_same p q zero e = refl
each_same p q (suc n) e = rw (each_same p q n (λ k h. e k (omega arith)), e n (omega arith))

-- The invariant of a loop that tests: each index below k passed, and k has not gone past n.
pub record Passed (p : ℕ → Bool) (n k : ℕ) : Type 0 where
  pub all : each p k ≡ true
  pub within : k ≤ n

-- At the start nothing has been tested.
pub passed_start : (p : ℕ → Bool) (n : ℕ) → Passed p n 0
unfolding each
passed_start p n = record { all = refl; within = omega arith }

-- A turn: r, the code's test, is that of index k and holds.
pub passed_on : {p : ℕ → Bool} {n k : ℕ} {r : Bool} → Passed p n k → k < n → r ≡ p k → r ≡ true → Passed p n (k + 1)
unfolding each
passed_on {p} {n} {k} {r} a h e t = record { all = rw (add-one k, a.all, ← e, t); within = omega arith }

-- The end: the whole holds.
pub passed_yes : {p : ℕ → Bool} {n k : ℕ} → Passed p n k → n ≤ k → true ≡ each p n
passed_yes {p} {n} {k} a h = let b : k ≤ n = a.within in let z : n ≡ k = omega arith in rw z (sym a.all)

-- An early end: the code's test fails at k, and so does the whole.
pub passed_no : (p : ℕ → Bool) (n k : ℕ) (r : Bool) → k < n → r ≡ p k → r ≡ false → false ≡ each p n
passed_no p n k r h e f = sym (each_no p n k h (rw e at f))

-- The invariant of a loop that tests every index and leaves at none: ok is the answer of the indices below k.
pub record Tested (p : ℕ → Bool) (n k : ℕ) (ok : Bool) : Type 0 where
  pub is : ok ≡ each p k
  pub within : k ≤ n

-- At the start nothing has been tested.
pub tested_start : (p : ℕ → Bool) (n : ℕ) → Tested p n 0 true
unfolding each
tested_start p n = record { is = refl; within = omega arith }

-- A turn: r, the code's test, is that of index k.
pub tested_on : {p : ℕ → Bool} {n k : ℕ} {ok r : Bool} → Tested p n k ok → k < n → r ≡ p k → Tested p n (k + 1) (ok && r)
unfolding each
tested_on {p} {n} {k} {ok} {r} a h e = record { is = rw (add-one k, a.is, e); within = omega arith }

-- The end: the answer is that of the whole.
pub tested_done : {p : ℕ → Bool} {n k : ℕ} {ok : Bool} → Tested p n k ok → n ≤ k → ok ≡ each p n
tested_done {p} {n} {k} {ok} a h = let b : k ≤ n = a.within in let z : n ≡ k = omega arith in rw z a.is
