-- The finiteness test of vector.rs, over lists. Definitions only.
use Rattle.std.specs.Prelude.{Bool, List, ℕ, Float}
use Rattle.float.specs.Float.{is_finite}
use Rattle.store.specs.Region.{at}
use Rattle.store.specs.Vector.{each}

-- `!v.iter().any(|x| !x.is_finite())`, of n elements
unfoldable pub all_finite : ℕ → List Float → Bool
all_finite n v = each (λ k. is_finite (at v k)) n
