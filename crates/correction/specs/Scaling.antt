-- The factor by which a correction is scaled (cycle.rs), over lists. Definitions only.
use Rattle.refusal.specs.declared.Refusal.{Refusal}
use Rattle.std.specs.Prelude.{cond, ◌&&◌, List, ℕ, ◌+◌, ◌≤◌, Float, Result, Ok, Err}
use Rattle.std.specs.Float.Ieee.{lt}
use Rattle.float.specs.Float.{add64, mul64, div64, zero64, is_finite}
use Rattle.refusal.specs.Refusal.{bad_correction_product, bad_correction_scale}
use Rattle.refusal.specs.Outcome.{Outcome, accepted, refused, ask, ◌>>◌}
use Rattle.store.specs.Loop.{for}
use Rattle.store.specs.Region.{at}
use Rattle.correction.specs.declared.scaling.Products.{Products}

-- both products
abbrev pub both : Float → Float → Products
both numerator denominator = record { numerator = numerator; denominator = denominator }

-- `numerator` and `denominator` of cycle.rs: n rows, in order, from +0
unfoldable pub products_of : ℕ → List Float → List Float → List Float → Products
products_of n correction residual product =
    for (λ row p. both (add64 p.numerator (mul64 (at correction row) (at residual row)))
    (add64 p.denominator (mul64 (at correction row) (at product row)))) 0 n (both zero64 zero64)

-- `factor` of cycle.rs, which scales a correction of n rows: the quotient where the denominator is above zero, else zero; questions 26 and 27
unfoldable pub correction_factor_of : ℕ → List Float → List Float → List Float → Outcome Float
correction_factor_of n correction residual product = do
  let p = products_of n correction residual product
  let factor = cond (lt zero64 p.denominator) (div64 p.numerator p.denominator) zero64
  ask (is_finite p.numerator && is_finite p.denominator) bad_correction_product
  ask (is_finite factor) bad_correction_scale
  accepted factor

-- what a function that scales answers
abbrev pub factor_of : Outcome Float → Result Float Refusal
factor_of (accepted factor) = Ok factor
factor_of (refused q) = Err q

-- three regions of n elements in a store of that size
pub record ProductsOk (size n correction residual product : ℕ) : Type 0 where
  pub corrections : correction + n ≤ size
  pub residuals : residual + n ≤ size
  pub products : product + n ≤ size

-- ---- the turns of the loops above, by the names that proofs have for them

-- one row more of both products
unfoldable pub products_turn : List Float → List Float → List Float → ℕ → Products → Products
products_turn correction residual product row p =
    both (add64 p.numerator (mul64 (at correction row) (at residual row)))
    (add64 p.denominator (mul64 (at correction row) (at product row)))

-- `factor` of cycle.rs: the quotient where the denominator is above zero, else zero
unfoldable pub quotient_of : Float → Float → Float
quotient_of numerator denominator = cond (lt zero64 denominator) (div64 numerator denominator) zero64

-- questions 26 and 27, and the factor
unfoldable pub scale_of : Float → Float → Outcome Float
scale_of numerator denominator = do
  ask (is_finite numerator && is_finite denominator) bad_correction_product
  ask (is_finite (quotient_of numerator denominator)) bad_correction_scale
  accepted (quotient_of numerator denominator)
