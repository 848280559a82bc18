-- What it is that every level's matrix is exactly the Galerkin product of the level above. The theorem (proofs/Theorem.antt) says it of
-- the levels that a build and an update make of whole values. Definitions only.
use Rattle.std.specs.Prelude.{◌≡◌, cond, List, [], ◌∷◌, ℕ, zero, suc, ◌+◌, ◌<◌, eqb, ltb, ℤ, drop, Float}
use Rattle.float.specs.Float.{zero64}
use Rattle.store.specs.Loop.{for}
use Rattle.store.specs.Region.{at, idx}
use Rattle.matrix.specs.Kernel.{Kernel}
use Rattle.pattern.specs.Pattern.{Pattern}
use Rattle.galerkin.specs.Whole.{Whole}
use Rattle.galerkin.specs.Product.{galerkin_product}
use Rattle.galerkin_theorem.specs.Theorem.{fine_matrix}
use Rattle.hierarchy.specs.Level.{Level, kernel_in}

-- ---- the matrix of a level

-- the value above the diagonal in row i and column j: that of the face of row i to j, or zero where there is none
unfoldable pub above_at : Kernel → ℕ → ℕ → Float
above_at k i j =
    for (λ e v. cond (eqb (idx k.neighbors e) j) (at k.coefficients e) v) (idx k.offsets i) (idx k.offsets (i + 1)) zero64

-- the entry (i, j) of the matrix that a kernel stands for: a face's value stands above the diagonal and, mirrored, below it
unfoldable pub entry_at : Kernel → ℕ → ℕ → Float
entry_at k i j = cond (ltb i j) (above_at k i j) (cond (ltb j i) (above_at k j i) (at k.diagonal i))

-- The matrix of a level is exactly the matrix A of whole numbers.
pub record MatrixIs (l : Level) (A : ℕ → ℕ → ℤ) : Type 0 where
  pub entry : (i j : ℕ) → i < l.shape.pattern.rows → j < l.shape.pattern.rows → Whole (entry_at (kernel_in l) i j) (A i j)

-- ---- level by level

-- The matrix of the first level is exactly A, and each other level's exactly Pᵀ A P of the level above, with the aggregates of that; where
-- merged steps made the level, these are the aggregates of all of them together.
pub data Galerkin : (ℕ → ℕ → ℤ) → List Level → Type 0 where
  last : {A : ℕ → ℕ → ℤ} {l : Level} → MatrixIs l A → Galerkin A (l ∷ [])
  inner : {A : ℕ → ℕ → ℤ} {l next : Level} {rest : List Level} → MatrixIs l A
      → Galerkin (galerkin_product l.shape.pattern.rows (idx l.shape.links) A) (next ∷ rest) → Galerkin A (l ∷ next ∷ rest)

-- ---- from the finest

-- the composed map: the aggregate in level k of row i of the finest, by the aggregates of the levels above it, one after the other
unfoldable pub composed : ℕ → List Level → ℕ → ℕ
composed zero levels i = i
composed (suc k) [] i = i
composed (suc k) (l ∷ rest) i = composed k rest (idx l.shape.links i)

-- Levels whose finest matrix A has the pattern p and the whole values z.
pub record ExactLevels (p : Pattern) (z : ℕ → ℤ) (levels : List Level) : Type 0 where
  -- each is the Galerkin product of the level above,
  pub steps : Galerkin (fine_matrix p z) levels
  -- and level k that of the finest: exactly Pᵀ A P, with the transfer P of the composed map
  pub finest : (k : ℕ) (l : Level) (rest : List Level) → drop k levels ≡ l ∷ rest
      → MatrixIs l (galerkin_product p.rows (composed k levels) (fine_matrix p z))
