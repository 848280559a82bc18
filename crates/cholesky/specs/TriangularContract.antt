-- What the substitutions by the factor require and ensure. Definitions only.
use Rattle.std.specs.Prelude.{◌≡◌, List, ℕ, ◌+◌, ◌-◌, ◌≤◌, Float}
use Rattle.store.specs.Loop.{for}
use Rattle.store.specs.Region.{at, part, Wrote}
use Rattle.cholesky.specs.Triangle.{tri}
use Rattle.cholesky.specs.TriangularFactor.{low_row, high_row}
use Rattle.cholesky.specs.Turns.{high_term}

-- the factor of n rows below x
pub record SolveOk (size n l x : ℕ) : Type 0 where
  pub ls : l + tri n ≤ x
  pub xs : x + n ≤ size

-- the forward substitution in place, and where the factor ends
pub record Lowered (n l x : ℕ) (F G : List Float) (top : ℕ) : Type 0 where
  pub wrote : Wrote x n (for (low_row (part l (tri n) F)) 0 n (part x n F)) F G
  pub ends : top ≡ tri n

-- x[row] less the column under the diagonal by x
pub record High (F : List Float) (n l x row : ℕ) (r : Float) : Type 0 where
  pub is : r ≡ for (high_term (part l (tri n) F) row (part x n F)) (row + 1) n (at (part x n F) row)

-- the backward substitution in place
pub record Raised (n l x : ℕ) (F G : List Float) : Type 0 where
  pub wrote : Wrote x n (for (λ j. high_row (part l (tri n) F) n (n - 1 - j)) 0 n (part x n F)) F G
