-- `cholesky` of hierarchy.rs, the factor packed by rows: entry (r, c) stands at `tri r + c`. Definitions only.
use Rattle.std.specs.Prelude.{cond, List, ℕ, zero, suc, ◌+◌, ◌-◌, eqb, Float, set}
use Rattle.float.specs.Float.{sub64, mul64, div64, zero64, is_positive}
use Rattle.float.specs.Sqrt.{sqrt_of}
use Rattle.refusal.specs.Refusal.{bad_pivot}
use Rattle.refusal.specs.Outcome.{Outcome, accepted, ask, ◌>>=◌}
use Rattle.store.specs.Loop.{for}
use Rattle.store.specs.Region.{at, idx}
use Rattle.store.specs.Vector.{filled}
use Rattle.cholesky.specs.Triangle.{tri}

-- a matrix by its rows: the entries of row r stand from offsets[r] up to offsets[r + 1]
pub record Csr : Type 0 where
  pub offsets : List ℕ
  pub columns : List ℕ
  pub values : List Float

-- the value of the first of so many entries from e on that has that column; +0 where none has
unfoldable pub seek_of : Csr → ℕ → ℕ → ℕ → Float
seek_of a column zero e = zero64
seek_of a column (suc entries) e = cond (eqb (idx a.columns e) column) (at a.values e) (seek_of a column entries (e + 1))

-- `matrix.get(row, column).unwrap_or(0.0)`
unfoldable pub get_of : Csr → ℕ → ℕ → Float
get_of a row column = seek_of a column (idx a.offsets (row + 1) - idx a.offsets row) (idx a.offsets row)

module _ (entry : ℕ → ℕ → Float) where
  -- an entry less the products of what stands before it in its row and in its column's row
  unfoldable pub rest_of : ℕ → ℕ → List Float → Float
  rest_of row column l = for (λ k value. sub64 value (mul64 (at l (tri row + k)) (at l (tri column + k)))) 0 column (entry row column)

  -- the row's elements below the diagonal: the rest of each over its column's diagonal
  unfoldable pub columns_of : ℕ → List Float → List Float
  columns_of row l = for (λ column l. set l (tri row + column) (div64 (rest_of row column l) (at l (tri column + column)))) 0 row l

module _ (level : ℕ) (coupled : List ℕ) (entry : ℕ → ℕ → Float) where
  -- one row: its elements below the diagonal, question 15 at the level's row (its pivot is finite and above zero), and the root of the pivot
  unfoldable pub factor_row_of : ℕ → List Float → Outcome (List Float)
  factor_row_of row l =
      let lower = columns_of entry row l in
      let value = rest_of entry row row lower in
      ask (is_positive value) (bad_pivot level (idx coupled row)) (accepted (set lower (tri row + row) (sqrt_of value)))

  -- so many rows from `row` on
  unfoldable pub rows_of : ℕ → ℕ → List Float → Outcome (List Float)
  rows_of zero row l = accepted l
  rows_of (suc rows) row l = do
    next ← factor_row_of row l
    rows_of rows (row + 1) next

-- `cholesky` of the compact matrix of coarse.rs, that of so many coupled rows
unfoldable pub cholesky_of : ℕ → Csr → ℕ → List ℕ → Outcome (List Float)
cholesky_of level a size coupled =
    rows_of level coupled (λ row column. get_of a (idx coupled row) (idx coupled column)) size 0 (filled (tri size) zero64)
