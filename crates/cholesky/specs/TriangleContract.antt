-- The rows of a packed triangle: what the functions require and ensure. Definitions only.
use Rattle.std.specs.Prelude.{List, ◌≡◌, ℕ, ◌+◌, ◌≤◌, ◌<◌, Float}
use Rattle.store.specs.Loop.{for}
use Rattle.cholesky.specs.Triangle.{tri}
use Rattle.cholesky.specs.Turns.{less_of}

-- a row of the triangle with its start
pub record RowAt (n row start : ℕ) : Type 0 where
  pub starts : start ≡ tri row
  pub fits : start + row + 1 ≤ tri n
  pub within : row < n

-- two runs of m elements in a store
pub record LessOk (size p q m : ℕ) : Type 0 where
  pub ps : p + m ≤ size
  pub qs : q + m ≤ size

-- own less the products of two runs
pub record Less (F : List Float) (p q m : ℕ) (own r : Float) : Type 0 where
  pub is : r ≡ for (less_of F p q) 0 m own
