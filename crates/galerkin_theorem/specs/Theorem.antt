-- What is proved of the coarse values: of half plus half (proofs/Faces.antt), and the Galerkin theorem (proofs/Theorem.antt), which
-- speaks of patterns with float values that are exactly a matrix of whole numbers.
-- Definitions only.
use Rattle.std.specs.Prelude.{◌≡◌, List, ℕ, ◌^◌, ◌≤◌, ◌<◌, ℤ, pos, Float}
use Rattle.store.specs.Region.{at, idx}
use Rattle.galerkin.specs.Whole.{Whole, sizes}
use Rattle.galerkin.specs.Product.{dense, galerkin_product}
use Rattle.pattern.specs.Pattern.{Pattern, entries, row_of, column_of}
use Rattle.galerkin.specs.Turns.{mean_of}

-- The fine values are the whole numbers z, mirrored entries have equal ones, and their absolute values sum to at most 2^53.
pub record WholeValues (p : Pattern) (values : List Float) (z : ℕ → ℤ) : Type 0 where
  pub whole : (e : ℕ) → e < entries p → Whole (at values e) (z e)
  pub symmetric : (e d : ℕ) → e < entries p → d < entries p → row_of p d ≡ column_of p e → column_of p d ≡ row_of p e → z d ≡ z e
  pub small : sizes (entries p) z ≤ 2 ^ 53

-- Upper and lower list entries of a pattern and their mirrors, as the faces of a matrix do.
pub record MirrorPairs (p : Pattern) (faces : ℕ) (upper lower : List ℕ) : Type 0 where
  pub uppers : (k : ℕ) → k < faces → idx upper k < entries p
  pub lowers : (k : ℕ) → k < faces → idx lower k < entries p
  pub rows : (k : ℕ) → k < faces → row_of p (idx lower k) ≡ column_of p (idx upper k)
  pub columns : (k : ℕ) → k < faces → column_of p (idx lower k) ≡ row_of p (idx upper k)

-- The faces of a pattern: each entry above the diagonal once, beside its mirror.
pub record FacesOf (p : Pattern) (faces : ℕ) (upper lower : List ℕ) : Type 0 where
  pub pairs : MirrorPairs p faces upper lower
  pub above : (k : ℕ) → k < faces → row_of p (idx upper k) < column_of p (idx upper k)
  pub once : (j k : ℕ) → j < k → k < faces → idx upper j ≡ idx upper k → ⊥
  pub all : (q : ℕ) → q < entries p → row_of p q < column_of p q → (k : ℕ) × (k < faces) × (idx upper k ≡ q)

-- Of the values v the values u: an entry q above the diagonal and its mirror d have the mean of their values in v, as in `galerkin`
-- of aggregation.rs, which takes all means before it stores one; the diagonal is as it was.
pub record Symmetrized (p : Pattern) (v u : List Float) : Type 0 where
  pub diagonal : (q : ℕ) → q < entries p → row_of p q ≡ column_of p q → at u q ≡ at v q
  pub mirrored : (q d : ℕ) → q < entries p → d < entries p → row_of p q < column_of p q → row_of p d ≡ column_of p q → column_of p d ≡ row_of p q
      → (at u q ≡ mean_of (at v q) (at v d)) × (at u d ≡ mean_of (at v q) (at v d))

-- the fine matrix A
abbrev pub fine_matrix : Pattern → (ℕ → ℤ) → ℕ → ℕ → ℤ
fine_matrix p z = dense (entries p) (row_of p) (column_of p) z

-- Pᵀ A P, with the transfer P of the map
abbrev pub coarse_matrix : Pattern → List ℕ → (ℕ → ℤ) → ℕ → ℕ → ℤ
coarse_matrix p map z = galerkin_product p.rows (idx map) (fine_matrix p z)

-- The pattern with the values v is exactly the matrix B: each entry's value is B's whole number, and outside the pattern B is zero.
pub record Exactly (p : Pattern) (v : List Float) (B : ℕ → ℕ → ℤ) : Type 0 where
  pub inside : (q : ℕ) → q < entries p → Whole (at v q) (B (row_of p q) (column_of p q))
  pub outside : (i j : ℕ) → ((q : ℕ) → q < entries p → row_of p q ≡ i → column_of p q ≡ j → ⊥) → B i j ≡ pos 0
