-- The residual, and how a correction is added as it is (cycle.rs), over lists. Definitions only.
use Rattle.std.specs.Prelude.{List, ℕ, ◌+◌, ◌≤◌, Float}
use Rattle.float.specs.Float.{add64, sub64}
use Rattle.store.specs.Region.{at, Clear}
use Rattle.store.specs.Vector.{tab}

-- the residual: `rhs[row] - product[row]` of n rows
unfoldable pub subtract_of : ℕ → List Float → List Float → List Float
subtract_of n rhs product = tab (λ row. sub64 (at rhs row) (at product row)) n

-- `x` of cycle.rs with no scaling: the correction, added to each of n rows
unfoldable pub add_plain_of : ℕ → List Float → List Float → List Float
add_plain_of n correction x = tab (λ row. add64 (at x row) (at correction row)) n

-- right-hand side, product and residual in a store of that size, the residual clear of the other two
pub record SubtractOk (size n rhs product out : ℕ) : Type 0 where
  pub rhss : rhs + n ≤ size
  pub products : product + n ≤ size
  pub outs : out + n ≤ size
  pub clear_rhs : Clear rhs n out n
  pub clear_product : Clear product n out n
