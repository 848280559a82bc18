-- How a scaled correction is added (cycle.rs), over lists. Definitions only.
use Rattle.std.specs.Prelude.{List, ℕ, ◌+◌, ◌≤◌, Float}
use Rattle.float.specs.Float.{add64, sub64, mul64}
use Rattle.store.specs.Region.{at, Clear}
use Rattle.store.specs.Vector.{tab}

-- `x` of cycle.rs under `scale_correction`: the scaled correction and a Jacobi step, one sum, added to each of n rows
unfoldable pub add_scaled_of : ℕ → Float → List Float → List Float → List Float → List Float → List Float → List Float
add_scaled_of n factor correction residual product inverse x =
    tab (λ row. add64 (at x row) (add64 (mul64 factor (at correction row))
    (mul64 (sub64 (at residual row) (mul64 factor (at product row))) (at inverse row)))) n

-- The reciprocals below x, correction and product above it in this order. The residual, which with no sweeps before is
-- the right-hand side, stands on either side of x.
pub record ScaledOk (size n correction residual product inverse x : ℕ) : Type 0 where
  pub inverses : inverse + n ≤ x
  pub xs : x + n ≤ correction
  pub corrections : correction + n ≤ product
  pub products : product + n ≤ size
  pub residuals : residual + n ≤ size
  pub clear : Clear residual n x n
