-- What the normalization requires. Definitions only.
use Rattle.std.specs.Prelude.{ℕ, ◌+◌, ◌≤◌}

-- four regions of n elements in a store of that size
pub record NormalizationOk (size n x rhs product rowsums : ℕ) : Type 0 where
  pub xs : x + n ≤ size
  pub rhss : rhs + n ≤ size
  pub products : product + n ≤ size
  pub sums : rowsums + n ≤ size
