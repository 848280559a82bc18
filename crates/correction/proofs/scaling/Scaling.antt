-- The loop of `correction_products`: a turn; and the ways out of `scale`. Assumes nothing.
use Rattle.refusal.specs.declared.Refusal.{Refusal}
use Rattle.std.specs.Prelude.{Result, Ok, Err}
use mathlib.Core.Path.{◌≡◌}
use mathlib.Core.Bool.{Bool, true, false, not, ◌&&◌}
use mathlib.Core.List.{List}
use Prim.Native.Nat.{ℕ, ◌+◌, ◌<◌}
use borrow.Author.Tests.{not-true, not-false}
use lib.Ieee.{Float}
use Rattle.float.specs.Float.{add64, mul64, is_finite}
use Rattle.refusal.specs.Refusal.{bad_correction_product, bad_correction_scale}
use Rattle.store.specs.Region.{at, part}
use Rattle.store.proofs.store.Region.{get_d_part}
use Rattle.correction.specs.declared.scaling.Products.{Products}
use Rattle.correction.specs.Scaling.{both, products_turn, products_of, quotient_of, scale_of, correction_factor_of, factor_of}

-- A turn of `correction_products` as the code has it.
pub products_on : (correction residual product n : ℕ) (F : List Float) (row : ℕ) (numerator denominator : Float) → row < n
    → both (add64 numerator (mul64 (at F (correction + row)) (at F (residual + row))))
    (add64 denominator (mul64 (at F (correction + row)) (at F (product + row))))
    ≡ products_turn (part correction n F) (part residual n F) (part product n F) row (both numerator denominator)
unfolding products_turn
products_on correction residual product n F row numerator denominator h = simp get_d_part

-- The three ways out of `scale`: a and b are the answers to question 26's tests, q is the quotient, r is question 27's.
module _ (numerator denominator : Float) (a b : Bool) (first : a ≡ is_finite numerator) (second : b ≡ is_finite denominator) where
  pub scale_bad : not (a && b) ≡ true → Err bad_correction_product ≡ factor_of (scale_of numerator denominator)
  unfolding scale_of
  scale_bad t = rw (← first, ← second, not-true (a && b) t)

  module _ (q : Float) (r : Bool) (t : not (a && b) ≡ false) (is : q ≡ quotient_of numerator denominator) (asked : r ≡ is_finite q) where
    pub scale_good : r ≡ true → Ok q ≡ factor_of (scale_of numerator denominator)
    unfolding scale_of
    scale_good e = rw (← first, ← second, not-false (a && b) t, ← is, ← asked, e)

    pub scale_wide : r ≡ false → Err bad_correction_scale ≡ factor_of (scale_of numerator denominator)
    unfolding scale_of
    scale_wide e = rw (← first, ← second, not-false (a && b) t, ← is, ← asked, e)

-- The scale of the products is the correction's factor.
pub factor_done : (n : ℕ) (correction residual product : List Float) {p : Products} {r : Result Float Refusal}
    → p ≡ products_of n correction residual product → r ≡ factor_of (scale_of p.numerator p.denominator)
    → r ≡ factor_of (correction_factor_of n correction residual product)
unfolding correction_factor_of scale_of quotient_of
factor_done n correction residual product e t = rw e at t
