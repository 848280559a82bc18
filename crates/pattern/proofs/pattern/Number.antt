-- Laws of numbers below a bound: whether some pass a test, how many do, and sums.
-- Assumes nothing.
use mathlib.Core.Path.{◌≡◌, refl, sym, ◌∙◌}
use mathlib.Core.Bool.{Bool, true, false, cond, ◌||◌, or-true, or-false}
use mathlib.Core.Logic.{◌⊎◌, inl, inr, ⊎_elim}
use Prim.Native.Nat.{ℕ, zero, suc, ◌+◌, ◌-◌, ◌≤◌, ◌<◌}
use native.Mathlib.Omega.{arith}
use lib.Dec.{eqb}
use borrow.Author.Tests.{eqb-true, eqb-false, eq-eqb, ne_eqb}
use Rattle.store.proofs.store.Region.{le_or_lt}
use Rattle.pattern.specs.Pattern.{some, how_many, sum_to}

-- ---- tests

-- A test holds or fails.
pub bool? : (b : Bool) → (b ≡ true) ⊎ (b ≡ false)
bool? true = inl refl
bool? false = inr refl

-- It does not do both.
pub not_both : {b : Bool} → b ≡ true → b ≡ false → ⊥
not_both {b} t f = let z : true ≡ false = cc in let y : ◌≡◌ {A = ℕ} 0 1 = cc in omega arith

-- two numbers, equal or not, with what the test says
abbrev pub Same : ℕ → ℕ → Type 0
Same a b = ((a ≡ b) × (eqb a b ≡ true)) ⊎ ((a ≡ b → ⊥) × (eqb a b ≡ false))

-- Two numbers are equal or not.
pub same? : (a b : ℕ) → Same a b
same? a b = ⊎_elim (λ t. inl (eqb-true a b t, t)) (λ f. inr (eqb-false a b f, f)) (bool? (eqb a b))

-- Tests that imply one another agree.
pub both_ways : (a b : Bool) → (a ≡ true → b ≡ true) → (b ≡ true → a ≡ true) → a ≡ b
both_ways true b f g = sym (f refl)
both_ways false true f g = g refl
both_ways false false f g = refl

-- What is at most b and is not b is below it.
pub under : (a b : ℕ) → a ≤ b → (a ≡ b → ⊥) → a < b
under a b h d = ⊎_elim (λ (w : b ≤ a). absurd (d (omega arith))) (λ (w : a < b). w) (le_or_lt b a)

-- ---- some

module _ (p : ℕ → Bool) where
  -- One that passes is some.
  pub some_at : (n k : ℕ) → k < n → p k ≡ true → some p n ≡ true
  unfolding some
  some_at zero k h t = absurd (omega arith)
  some_at (suc n) k h t = ⊎_elim
      (λ (w : n ≤ k). let e : n ≡ k = omega arith in rw (e, t) (or-true (some p k)))
      (λ (w : k < n). rw (some_at n k w t) refl)
      (le_or_lt n k)

  -- Of some, one can be named.
  pub some_which : (n : ℕ) → some p n ≡ true → (k : ℕ) × (k < n) × (p k ≡ true)
  unfolding some
  some_which zero t = absurd (not_both t refl)
  some_which (suc n) t = ⊎_elim
      (λ (w : some p n ≡ true). let v = some_which n w in let l = v.1 in (v.0, omega arith, v.2))
      (λ (w : some p n ≡ false). (n, omega arith, rw w at t))
      (bool? (some p n))

  -- Where none passes there is none.
  pub some_none : (n : ℕ) → ((k : ℕ) → k < n → p k ≡ false) → some p n ≡ false
  some_none n h = ⊎_elim (λ t. let v = some_which n t in absurd (not_both v.2 (h v.0 v.1)))
      (λ f. f) (bool? (some p n))

-- Tests that agree below n agree of some.
pub some_same : (p q : ℕ → Bool) (n : ℕ) → ((k : ℕ) → k < n → p k ≡ q k) → some p n ≡ some q n
unfolding some
some_same p q zero e = refl
some_same p q (suc n) e = rw (some_same p q n (λ k l. e k (omega arith)), e n (omega arith))

-- Numbers from a to b that do not pass change nothing.
pub some_skip : (p : ℕ → Bool) (a b : ℕ) → a ≤ b → ((k : ℕ) → a ≤ k → k < b → p k ≡ false) → some p a ≡ some p b
some_skip p a b h off = both_ways (some p a) (some p b)
    (λ t. let v = some_which p a t in let l = v.1 in some_at p b v.0 (omega arith) v.2)
    (λ t. let v = some_which p b t in ⊎_elim
    (λ (w : a ≤ v.0). absurd (not_both v.2 (off v.0 w v.1)))
    (λ (w : v.0 < a). some_at p a v.0 w v.2)
    (le_or_lt a v.0))

-- ---- how many

-- One number more.
pub many_step : (p : ℕ → Bool) (n : ℕ) → how_many p (suc n) ≡ how_many p n + cond (p n) 1 0
unfolding how_many
many_step p n = refl

-- None below 0.
pub many_zero : (p : ℕ → Bool) → how_many p 0 ≡ 0
unfolding how_many
many_zero p = refl

module _ (p : ℕ → Bool) where
  -- Below more numbers are no fewer.
  pub many_mono : (a b : ℕ) → a ≤ b → how_many p a ≤ how_many p b
  many_mono a zero h = let e : a ≡ 0 = omega arith in rw e (omega arith)
  many_mono a (suc b) h = ⊎_elim
      (λ (w : suc b ≤ a). let e : a ≡ suc b = omega arith in rw e (omega arith))
      (λ (w : a < suc b). let z = many_mono a b (omega arith) in let y = many_step p b in omega arith)
      (le_or_lt (suc b) a)

  -- One that passes counts.
  pub many_lt : (a b : ℕ) → a < b → p a ≡ true → how_many p a < how_many p b
  many_lt a b h t =
      let z = many_mono (suc a) b h in
      let y : how_many p (suc a) ≡ how_many p a + 1 = many_step p a ∙ rw t refl in
      omega arith

  -- Each count below the whole is that below some number that passes.
  pub many_which : (n k : ℕ) → k < how_many p n → (c : ℕ) × (c < n) × (p c ≡ true) × (how_many p c ≡ k)
  many_which zero k h = absurd (let z = many_zero p in omega arith)
  many_which (suc n) k h = ⊎_elim
      (λ (w : how_many p n ≤ k). last w (bool? (p n)))
      (λ (w : k < how_many p n). let v = many_which n k w in let i = v.1 in (v.0, omega arith, v.2, v.3))
      (le_or_lt (how_many p n) k)
    where
      last : how_many p n ≤ k → (p n ≡ true) ⊎ (p n ≡ false) → (c : ℕ) × (c < suc n) × (p c ≡ true) × (how_many p c ≡ k)
      last w (inl t) = let y : how_many p (suc n) ≡ how_many p n + 1 = many_step p n ∙ rw t refl in
          (n, omega arith, t, omega arith)
      last w (inr f) = let y : how_many p (suc n) ≡ how_many p n + 0 = many_step p n ∙ rw f refl in absurd (omega arith)

  -- Where just the numbers below k pass, there are k.
  pub many_first : (n k : ℕ) → k ≤ n → ((i : ℕ) → i < k → p i ≡ true) → ((i : ℕ) → k ≤ i → i < n → p i ≡ false)
      → how_many p n ≡ k
  many_first zero k h on off = let e : k ≡ 0 = omega arith in rw e (many_zero p)
  many_first (suc n) k h on off = ⊎_elim
      (λ (w : suc n ≤ k).
      let e : how_many p n ≡ n = many_first n n (omega arith) (λ i l. on i (omega arith))
      (λ i l m. absurd (omega arith)) in
      let y : how_many p (suc n) ≡ how_many p n + 1 = many_step p n ∙ rw (on n (omega arith)) refl in
      omega arith)
      (λ (w : k < suc n).
      let e : how_many p n ≡ k = many_first n k (omega arith) on (λ i l m. off i l (omega arith)) in
      let y : how_many p (suc n) ≡ how_many p n + 0 = many_step p n ∙ rw (off n (omega arith) (omega arith)) refl in
      omega arith)
      (le_or_lt (suc n) k)

-- Where none passes the count is 0.
pub many_none : (p : ℕ → Bool) (n : ℕ) → ((k : ℕ) → k < n → p k ≡ false) → how_many p n ≡ 0
many_none p n f = many_first p n 0 (omega arith) (λ i l. absurd (omega arith)) (λ i _ l. f i l)

-- Tests of which one implies the other but for extra: no more pass than with the extra ones.
pub many_extra : (p q x : ℕ → Bool) (n : ℕ) → ((k : ℕ) → p k ≡ (q k || x k)) → how_many p n ≤ how_many q n + how_many x n
unfolding how_many
many_extra p q x zero e = omega arith
many_extra p q x (suc n) e = rw (e n) (go (q n) (x n) (many_extra p q x n e))
  where
    go : (a b : Bool) → how_many p n ≤ how_many q n + how_many x n
        → how_many p n + cond (a || b) 1 0 ≤ how_many q n + cond a 1 0 + (how_many x n + cond b 1 0)
    go true b z = omega arith
    go false true z = omega arith
    go false false z = omega arith

-- Tests that agree below n count alike.
pub many_same : (p q : ℕ → Bool) (n : ℕ) → ((k : ℕ) → k < n → p k ≡ q k) → how_many p n ≡ how_many q n
unfolding how_many
many_same p q zero e = refl
many_same p q (suc n) e = rw (many_same p q n (λ k l. e k (omega arith)), e n (omega arith))

-- Where a test implies another, no more pass it.
pub many_sub : (p q : ℕ → Bool) (n : ℕ) → ((k : ℕ) → p k ≡ true → q k ≡ true) → how_many p n ≤ how_many q n
unfolding how_many
many_sub p q zero f = omega arith
many_sub p q (suc n) f = go (p n) (q n) (f n) (many_sub p q n f)
  where
    go : (a b : Bool) → (a ≡ true → b ≡ true) → how_many p n ≤ how_many q n
        → how_many p n + cond a 1 0 ≤ how_many q n + cond b 1 0
    go true b f z = rw (f refl) (omega arith)
    go false b f z = omega arith

-- One number more passes.
pub many_more : (p : ℕ → Bool) (b n : ℕ) → p b ≡ false → b < n → how_many (λ d. p d || eqb b d) n ≡ how_many p n + 1
unfolding how_many
many_more p b zero f h = absurd (omega arith)
many_more p b (suc n) f h = ⊎_elim
    (λ (w : n ≤ b).
    let e : n ≡ b = omega arith in
    rw (e, f, eq-eqb b b refl) (omega (
      arith,
      many_same (λ d. p d || eqb b d) p b
          (λ k l. rw (ne_eqb b k (λ q. omega arith)) (or-false (p k))),
    )))
    (λ (w : b < n).
    let z = many_more p b n f w in
    rw (ne_eqb b n (λ q. omega arith), or-false (p n)) (omega arith))
    (le_or_lt n b)

-- At most one number is a.
pub many_one : (a n : ℕ) → how_many (eqb a) n ≤ 1
many_one a n = ⊎_elim
    (λ (w : n ≤ a). let z = many_none (eqb a) n (λ k l. ne_eqb a k (λ e. omega arith)) in omega arith)
    (λ (w : a < n). past n w (many_none (eqb a) a (λ k l. ne_eqb a k (λ e. omega arith))))
    (le_or_lt n a)
  where
    past : (n : ℕ) → a < n → how_many (eqb a) a ≡ 0 → how_many (eqb a) n ≤ 1
    past zero w z = absurd (omega arith)
    past (suc n) w z = ⊎_elim
        (λ (v : n ≤ a). let e : n ≡ a = omega arith in let y = many_step (eqb a) a in let x : eqb a a ≡ true =
        eq-eqb a a refl in rw (e, many_step (eqb a) a, x, z) (omega arith))
        (λ (v : a < n). let y = past n v z in let x : eqb a n ≡ false = ne_eqb a n
        (λ e. omega arith) in rw (many_step (eqb a) n, x) (omega arith))
        (le_or_lt n a)

-- ---- sums

-- One number more.
pub sum_step : (f : ℕ → ℕ) (n : ℕ) → sum_to f (suc n) ≡ sum_to f n + f n
unfolding sum_to
sum_step f n = refl

-- Nothing below 0.
pub sum_zero : (f : ℕ → ℕ) → sum_to f 0 ≡ 0
unfolding sum_to
sum_zero f = refl

module _ (f : ℕ → ℕ) where
  -- A longer sum is no smaller.
  pub sum_mono : (a b : ℕ) → a ≤ b → sum_to f a ≤ sum_to f b
  sum_mono a zero h = let e : a ≡ 0 = omega arith in rw e (omega arith)
  sum_mono a (suc b) h = ⊎_elim
      (λ (w : suc b ≤ a). let e : a ≡ suc b = omega arith in rw e (omega arith))
      (λ (w : a < suc b). let z = sum_mono a b (omega arith) in let y = sum_step f b in omega arith)
      (le_or_lt (suc b) a)

  -- Each number below the whole lies in some term.
  pub sum_which : (n q : ℕ) → q < sum_to f n → (r : ℕ) × (k : ℕ) × (r < n) × (k < f r) × (q ≡ sum_to f r + k)
  sum_which zero q h = absurd (let z = sum_zero f in omega arith)
  sum_which (suc n) q h = ⊎_elim
      (λ (w : sum_to f n ≤ q). let y = sum_step f n in (n, q - sum_to f n, omega arith, omega arith, omega arith))
      (λ (w : q < sum_to f n). let v = sum_which n q w in let i = v.2 in (v.0, v.1, omega arith, v.3, v.4))
      (le_or_lt (sum_to f n) q)

-- A sum of zeros is 0.
pub sum_none : (f : ℕ → ℕ) (n : ℕ) → ((k : ℕ) → f k ≡ 0) → sum_to f n ≡ 0
unfolding sum_to
sum_none f zero e = refl
sum_none f (suc n) e = rw (sum_none f n e, e n) refl

-- Terms that are no larger but for extra ones: the sum is no larger than with the number of these.
pub sum_extra : (f h : ℕ → ℕ) (x : ℕ → Bool) (n : ℕ) → ((k : ℕ) → f k ≤ h k + cond (x k) 1 0)
    → sum_to f n ≤ sum_to h n + how_many x n
unfolding sum_to how_many
sum_extra f h x zero e = omega arith
sum_extra f h x (suc n) e = let z = sum_extra f h x n e in let y = e n in omega arith
