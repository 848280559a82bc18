-- The matrix of whole numbers that entries stand for: an entry's row and column have its value, and where there is no entry it is zero.
-- Assumes nothing.
use mathlib.Core.Path.{◌≡◌, refl, sym, ◌∙◌}
use mathlib.Core.Bool.{Bool, true, false}
use mathlib.Core.Logic.{⊎_elim}
use Prim.Native.Nat.{ℕ, ◌<◌}
use lib.Dec.{eqb}
use lib.IntN.{ℤ, pos}
use borrow.Author.Tests.{eqb-true, eq-eqb}
use Rattle.galerkin.specs.Product.{when, dense}
use Rattle.galerkin.proofs.exact.Sums.{Σ-same, Σ-zero, Σ-one}
use Rattle.pattern.specs.Pattern.{Pattern, entries, row_of, column_of, Valid, Rising}
use Rattle.pattern.proofs.pattern.Number.{same?}
use Rattle.galerkin_theorem.specs.Theorem.{fine_matrix}
use Rattle.galerkin_theorem.proofs.Mirror.{entry_once}

-- Under two conditions that do not both hold nothing is left.
off : (a b : Bool) (y : ℤ) → (a ≡ true → b ≡ true → ⊥) → when a (when b y) ≡ pos 0
off true true y no_both = absurd (no_both refl refl)
off true false y no_both = refl
off false b y no_both = refl

module _ (p : Pattern) (z : ℕ → ℤ) where
  -- Where no entry stands the matrix is zero.
  pub dense_none : (i j : ℕ) → ((e : ℕ) → e < entries p → row_of p e ≡ i → column_of p e ≡ j → ⊥) → fine_matrix p z i j ≡ pos 0
  unfolding dense
  dense_none i j none =
      Σ-same (entries p) (λ e. when (eqb (row_of p e) i) (when (eqb (column_of p e) j) (z e))) (λ e. pos 0)
      (λ e h. off (eqb (row_of p e) i) (eqb (column_of p e) j) (z e) (λ s t. none e h (eqb-true (row_of p e) i s) (eqb-true (column_of p e) j t)))
      ∙ Σ-zero (entries p)

  module _ (valid : Valid p) (rising : Rising p) where
    -- Of the entries only e stands in the row and column of e.
    alone : (e i j : ℕ) → e < entries p → row_of p e ≡ i → column_of p e ≡ j → (d : ℕ) → d < entries p
        → when (eqb (row_of p d) i) (when (eqb (column_of p d) j) (z d)) ≡ when (eqb e d) (z d)
    alone e i j h r c d l = ⊎_elim
        (λ (w : (e ≡ d) × (eqb e d ≡ true)).
        rw (eq-eqb (row_of p d) i (rw w.0 at r), eq-eqb (column_of p d) j (rw w.0 at c), w.1) refl)
        (λ (w : (e ≡ d → ⊥) × (eqb e d ≡ false)).
        rw w.1 (off (eqb (row_of p d) i) (eqb (column_of p d) j) (z d) (λ s t.
        w.0 (entry_once p valid rising e d h l (r ∙ sym (eqb-true (row_of p d) i s)) (c ∙ sym (eqb-true (column_of p d) j t))))))
        (same? e d)

    -- The matrix has an entry's value in the row and column of that entry.
    pub dense_at : (e i j : ℕ) → e < entries p → row_of p e ≡ i → column_of p e ≡ j → fine_matrix p z i j ≡ z e
    unfolding dense
    dense_at e i j h r c =
        Σ-same (entries p) (λ d. when (eqb (row_of p d) i) (when (eqb (column_of p d) j) (z d))) (λ d. when (eqb e d) (z d)) (alone e i j h r c)
        ∙ Σ-one (entries p) e z h
