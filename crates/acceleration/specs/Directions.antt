-- acceleration.rs: what is done with a direction and its image, over lists. Definitions only.
use Rattle.std.specs.Prelude.{List, [], ◌∷◌, ℕ, Float, Option, Some, None}
use Rattle.float.specs.Float.{sub64, mul64}
use Rattle.refusal.specs.declared.Refusal.{Refusal}
use Rattle.refusal.specs.Refusal.{bad_dot_product}
use Rattle.refusal.specs.Outcome.{Outcome, accepted, refused, ◌>>=◌}
use Rattle.store.specs.Region.{at}
use Rattle.store.specs.Vector.{tab}
use Rattle.vector.specs.Dot.{dot_of, product_of}

-- a direction p and its image q = A p: a stored pair, or the new one
pub record Pair : Type 0 where
  pub direction : List Float
  pub image : List Float

-- `y[row] -= a * x[row]`
unfoldable pub less_of : ℕ → Float → List Float → List Float → List Float
less_of n a x y = tab (λ row. sub64 (at y row) (mul64 a (at x row))) n

-- a value, or that refusal where it is not finite: `dot(..)?` and `norm_l2(..)?` by question 28, `measure(..)?` by question 23
abbrev pub finite : Refusal → Option Float → Outcome Float
finite q (Some x) = accepted x
finite q None = refused q

-- a stored pair out of the new one: `beta` times each
unfoldable pub orthogonal_to : ℕ → Pair → Pair → Outcome Pair
orthogonal_to n m s = do
  beta ← finite bad_dot_product (product_of (dot_of n s.image m.image))
  accepted (record { direction = less_of n beta m.direction s.direction; image = less_of n beta m.image s.image })

-- one pass over the stored pairs
unfoldable pub pass_of : ℕ → List Pair → Pair → Outcome Pair
pass_of n [] s = accepted s
pass_of n (m ∷ memory) s = do
  t ← orthogonal_to n m s
  pass_of n memory t
