-- The factor and its solve: the turns of the loops, by the names that proofs have for them. Definitions only.
use Rattle.std.specs.Prelude.{List, ℕ, ◌+◌, Float, set}
use Rattle.float.specs.Float.{sub64, mul64, div64}
use Rattle.store.specs.Region.{at, idx}
use Rattle.cholesky.specs.Triangle.{tri}
use Rattle.cholesky.specs.Factor.{Csr, get_of, rest_of}

-- an entry of the compact matrix of coarse.rs: that of the coupled rows
abbrev pub compact_of : Csr → List ℕ → ℕ → ℕ → Float
compact_of a coupled row column = get_of a (idx coupled row) (idx coupled column)

module _ (entry : ℕ → ℕ → Float) where
  -- an element below the diagonal: the rest over the column's diagonal
  unfoldable pub column_of : ℕ → ℕ → List Float → List Float
  column_of row column l = set l (tri row + column) (div64 (rest_of entry row column l) (at l (tri column + column)))

-- `value -= lower[row, k] * lower[column, k]`, the two rows starting at p and q
unfoldable pub less_of : List Float → ℕ → ℕ → ℕ → Float → Float
less_of l p q k value = sub64 value (mul64 (at l (p + k)) (at l (q + k)))

module _ (l : List Float) where
  -- `x[row] -= lower[row, k] * x[k]`
  unfoldable pub low_term : ℕ → List Float → ℕ → Float → Float
  low_term row x k value = sub64 value (mul64 (at l (tri row + k)) (at x k))

  -- `x[row] -= lower[k, row] * x[k]`
  unfoldable pub high_term : ℕ → List Float → ℕ → Float → Float
  high_term row x k value = sub64 value (mul64 (at l (tri k + row)) (at x k))
