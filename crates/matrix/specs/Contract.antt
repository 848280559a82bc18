-- What the functions of a matrix require of the stores. Definitions only.
use Rattle.std.specs.Prelude.{List, ℕ, ◌+◌, ◌≤◌, ◌<◌, length}
use Rattle.store.specs.Region.{idx}
use Rattle.matrix.specs.declared.matrix.SymmetricMatrix.{SymmetricMatrix}

-- The layout of a kernel: its words lie in w, its floats end at or below `low`, a row's faces end by the last, and a
-- neighbour is a row.
pub record KernelOk (w : List ℕ) (low : ℕ) (s : SymmetricMatrix) : Type 0 where
  pub starts : s.offsets + s.rows + 1 ≤ length w
  pub columns : s.neighbors + idx w (s.offsets + s.rows) ≤ length w
  pub own : s.diagonal + s.rows ≤ low
  pub recip : s.inverse + s.rows ≤ low
  pub faces : s.coefficients + idx w (s.offsets + s.rows) ≤ low
  pub falls : (k : ℕ) → k < s.rows → idx w (s.offsets + k + 1) ≤ idx w (s.offsets + s.rows)
  pub near : (e : ℕ) → e < idx w (s.offsets + s.rows) → idx w (s.neighbors + e) < s.rows
