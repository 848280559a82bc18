-- Laws of finite sums over the whole numbers.
-- Assumes nothing.
use mathlib.Core.Path.{◌≡◌, refl, sym, ap, ◌∙◌}
use mathlib.Core.Bool.{Bool, true, false}
use mathlib.Core.Logic.{⊎_elim}
use Prim.Native.Nat.{ℕ, zero, suc, ◌≤◌, ◌<◌}
use native.Mathlib.Omega.{arith}
use lib.Dec.{eqb}
use lib.IntN.{ℤ, pos, nat_abs, ◌+ℤ◌, +ℤ_idl, +ℤ_idr, +ℤ_assoc, +ℤ_comm}
use borrow.Author.Tests.{eqb-true, eqb-false, eq-eqb, ne_eqb}
use Rattle.store.proofs.store.Region.{le_or_lt}
use Rattle.galerkin.specs.Whole.{sizes}
use Rattle.galerkin.specs.Product.{Σℤ, when}
use Rattle.galerkin.proofs.exact.Whole.{nat_abs_add}

-- Sums of equal terms are equal.
pub Σ-same : (n : ℕ) (g h : ℕ → ℤ) → ((i : ℕ) → i < n → g i ≡ h i) → Σℤ n g ≡ Σℤ n h
unfolding Σℤ
Σ-same zero g h e = refl
Σ-same (suc n) g h e = rw (Σ-same n g h (λ i l. e i (omega arith)), e n (omega arith))

-- A sum of zeros is zero.
pub Σ-zero : (n : ℕ) → Σℤ n (λ i. pos 0) ≡ pos 0
unfolding Σℤ
Σ-zero zero = refl
Σ-zero (suc n) = ap (λ (x : ℤ). x +ℤ pos 0) (Σ-zero n)

four : (a b c d : ℤ) → (a +ℤ b) +ℤ (c +ℤ d) ≡ (a +ℤ c) +ℤ (b +ℤ d)
four a b c d =
    +ℤ_assoc a b (c +ℤ d)
    ∙ ap (λ (x : ℤ). a +ℤ x) (sym (+ℤ_assoc b c d) ∙ ap (λ (x : ℤ). x +ℤ d) (+ℤ_comm b c) ∙ +ℤ_assoc c b d)
    ∙ sym (+ℤ_assoc a c (b +ℤ d))

-- A sum of sums.
Σ-add : (n : ℕ) (g h : ℕ → ℤ) → Σℤ n (λ i. g i +ℤ h i) ≡ Σℤ n g +ℤ Σℤ n h
unfolding Σℤ
Σ-add zero g h = refl
Σ-add (suc n) g h = ap (λ (x : ℤ). x +ℤ (g n +ℤ h n)) (Σ-add n g h) ∙ four (Σℤ n g) (Σℤ n h) (g n) (h n)

-- The order of two sums does not matter.
pub Σ-swap : (n m : ℕ) (g : ℕ → ℕ → ℤ) → Σℤ n (λ i. Σℤ m (λ j. g i j)) ≡ Σℤ m (λ j. Σℤ n (λ i. g i j))
unfolding Σℤ
Σ-swap zero m g = sym (Σ-zero m)
Σ-swap (suc n) m g = ap (λ (x : ℤ). x +ℤ Σℤ m (λ j. g n j)) (Σ-swap n m g) ∙ sym (Σ-add m (λ j. Σℤ n (λ i. g i j)) (λ j. g n j))

when_zero : (b : Bool) → when b (pos 0) ≡ pos 0
when_zero true = refl
when_zero false = refl

when_add : (b : Bool) (x y : ℤ) → when b (x +ℤ y) ≡ when b x +ℤ when b y
when_add true x y = refl
when_add false x y = refl

-- Two conditions may be exchanged.
pub when_comm : (a b : Bool) (z : ℤ) → when a (when b z) ≡ when b (when a z)
when_comm true b z = refl
when_comm false b z = sym (when_zero b)

-- A condition on the whole sum is one on each term.
pub Σ-when : (n : ℕ) (b : Bool) (g : ℕ → ℤ) → Σℤ n (λ i. when b (g i)) ≡ when b (Σℤ n g)
unfolding Σℤ
Σ-when zero b g = sym (when_zero b)
Σ-when (suc n) b g = ap (λ (x : ℤ). x +ℤ when b (g n)) (Σ-when n b g) ∙ sym (when_add b (Σℤ n g) (g n))

one_none : (n a : ℕ) (g : ℕ → ℤ) → n ≤ a → Σℤ n (λ i. when (eqb a i) (g i)) ≡ pos 0
unfolding Σℤ
one_none zero a g h = refl
one_none (suc n) a g h = rw (one_none n a g (omega arith), ne_eqb a n (λ e. omega arith))

-- A sum in which one term is left is that term.
pub Σ-one : (n a : ℕ) (g : ℕ → ℤ) → a < n → Σℤ n (λ i. when (eqb a i) (g i)) ≡ g a
unfolding Σℤ
Σ-one zero a g h = absurd (omega arith)
Σ-one (suc n) a g h = ⊎_elim
    (λ (l : n ≤ a).
    let e : a ≡ n = omega arith in
    rw (one_none n a g l, eq-eqb a n e) (+ℤ_idl (g n) ∙ ap g (sym e)))
    (λ (l : a < n). rw (Σ-one n a g l, ne_eqb a n (λ e. omega arith)) (+ℤ_idr (g a)))
    (le_or_lt n a)

-- What some of the terms sum to is no larger than all their sizes.
pub Σ-size : (n : ℕ) (p : ℕ → Bool) (z : ℕ → ℤ) → nat_abs (Σℤ n (λ e. when (p e) (z e))) ≤ sizes n z
unfolding Σℤ sizes
Σ-size zero p z = omega arith
Σ-size (suc n) p z = omega (arith, nat_abs_add (Σℤ n (λ e. when (p e) (z e))) (when (p n) (z n)), Σ-size n p z, less (p n) (z n))
  where
    less : (b : Bool) (y : ℤ) → nat_abs (when b y) ≤ nat_abs y
    less true y = omega arith
    less false y = omega arith

-- Sizes add up.
pub sizes_mono : (z : ℕ → ℤ) (k n : ℕ) → k ≤ n → sizes k z ≤ sizes n z
unfolding sizes
sizes_mono z k zero h = let e : k ≡ 0 = omega arith in rw e (omega arith)
sizes_mono z k (suc n) h = ⊎_elim
    (λ (w : k ≤ n). omega (arith, sizes_mono z k n w))
    (λ (w : n < k). let e : k ≡ suc n = omega arith in rw e (omega arith))
    (le_or_lt k n)

same_eqb : (a b c d : ℕ) → (a ≡ b → c ≡ d) → (c ≡ d → a ≡ b) → eqb a b ≡ eqb c d
same_eqb a b c d f g = go (eqb c d) refl
  where
    go : (t : Bool) → eqb c d ≡ t → eqb a b ≡ eqb c d
    go true e = eq-eqb a b (g (eqb-true c d e)) ∙ sym e
    go false e = ne_eqb a b (λ q. eqb-false c d e (f q)) ∙ sym e

-- A sum in the order of the mirrors is the sum.
pub Σ-mirror : (m : ℕ) (s : ℕ → ℕ) → ((e : ℕ) → e < m → s e < m) → ((e : ℕ) → e < m → s (s e) ≡ e) → (f : ℕ → ℤ) → Σℤ m (λ e. f (s e)) ≡ Σℤ m f
Σ-mirror m s inside back f =
    Σ-same m (λ e. f (s e)) (λ e. Σℤ m (λ d. when (eqb (s e) d) (f d))) (λ e h. sym (Σ-one m (s e) f (inside e h)))
    ∙ Σ-swap m m (λ e d. when (eqb (s e) d) (f d))
    ∙ Σ-same m (λ d. Σℤ m (λ e. when (eqb (s e) d) (f d))) f (λ d h.
    Σ-same m (λ e. when (eqb (s e) d) (f d)) (λ e. when (eqb (s d) e) (f d)) (λ e l.
    ap (λ (b : Bool). when b (f d)) (same_eqb (s e) d (s d) e (λ q. ap s (sym q) ∙ back e l) (λ q. ap s (sym q) ∙ back d h)))
    ∙ Σ-one m (s d) (λ e. f d) (inside d h))
