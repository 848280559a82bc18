-- `solve_factor` of hierarchy.rs, the factor packed by rows: entry (r, c) stands at `tri r + c`. Definitions only.
use Rattle.std.specs.Prelude.{List, ℕ, ◌+◌, ◌-◌, Float, set}
use Rattle.float.specs.Float.{sub64, mul64, div64}
use Rattle.store.specs.Loop.{for}
use Rattle.store.specs.Region.{at}
use Rattle.cholesky.specs.Triangle.{tri}

module _ (l : List Float) where
  -- a row of the forward substitution, `x[row] -= lower[row, k] * x[k]`; x[row] is written once, at its end
  unfoldable pub low_row : ℕ → List Float → List Float
  low_row row x = set x row (div64 (for (λ k value. sub64 value (mul64 (at l (tri row + k)) (at x k))) 0 row (at x row)) (at l (tri row + row)))

  -- a row of the backward substitution over n rows, `x[row] -= lower[k, row] * x[k]`
  unfoldable pub high_row : ℕ → ℕ → List Float → List Float
  high_row n row x = set x row (div64 (for (λ k value. sub64 value (mul64 (at l (tri k + row)) (at x k))) (row + 1) n (at x row)) (at l (tri row + row)))

-- `solve_factor`: rows upward, then downward
unfoldable pub solve_factor_of : ℕ → List Float → List Float → List Float
solve_factor_of n l rhs = for (λ j. high_row l n (n - 1 - j)) 0 n (for (low_row l) 0 n rhs)
