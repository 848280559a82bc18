-- `dot` and `norm_l2` of vector.rs, over lists. Definitions only.
use Rattle.std.specs.Prelude.{cond, List, ℕ, ◌+◌, ◌*◌, ◌/◌, min, Float, Option, Some, None}
use Rattle.float.specs.Float.{add64, mul64, neg_zero, is_finite}
use Rattle.float.specs.Sqrt.{sqrt_of}
use Rattle.store.specs.Loop.{for}
use Rattle.store.specs.Region.{at}

-- `chunk`: the products from lo to hi, added up from −0
unfoldable pub block_of : List Float → List Float → ℕ → ℕ → Float
block_of u v lo hi = for (λ k sum. add64 sum (mul64 (at u k) (at v k))) lo hi neg_zero

-- `dot` of n elements, before its finiteness test: the sums of blocks of 1,024 products, or what is left of the n, added up from −0
unfoldable pub dot_of : ℕ → List Float → List Float → Float
dot_of n u v = for (λ i sum. add64 sum (block_of u v (i * 1024) (min (i * 1024 + 1024) n))) 0 ((n + 1023) / 1024) neg_zero

-- `Ok(value)` where the value is finite
unfoldable pub product_of : Float → Option Float
product_of x = cond (is_finite x) (Some x) None

-- the root of a product that is finite
unfoldable pub root_of : Option Float → Option Float
root_of (Some squared) = product_of (sqrt_of squared)
root_of None = None

-- `norm_l2` of n elements
unfoldable pub norm_of : ℕ → List Float → Option Float
norm_of n u = root_of (product_of (dot_of n u u))
