-- Levels by the names that proofs have for them. Definitions only.
use Rattle.std.specs.Prelude.{ℕ, ℤ}
use Rattle.store.specs.Region.{idx}
use Rattle.pattern.specs.Pattern.{Pattern}
use Rattle.galerkin.specs.Product.{galerkin_product}
use Rattle.galerkin_theorem.specs.Theorem.{coarse_matrix, Exactly}
use Rattle.hierarchy.specs.Level.{Level}
use Rattle.hierarchy.specs.Build.{Merged}

-- What merged steps have made of a level with the pattern p and the whole values z is exactly Pᵀ A P of the level's matrix A, with the
-- transfer P of the map so far.
pub record MergedIs (p : Pattern) (z : ℕ → ℤ) (s : Merged) : Type 0 where
  pub exact : Exactly s.mesh.pattern s.mesh.values (coarse_matrix p s.map z)

-- a matrix of whole numbers
abbrev pub Matrix : Type 0
Matrix = ℕ → ℕ → ℤ

-- Pᵀ A P, with the transfer P of a level's aggregates
abbrev pub product_of : Level → Matrix → Matrix
product_of l A = galerkin_product l.shape.pattern.rows (idx l.shape.links) A
