-- The coarse values and weights: the turns of the loops, by the names that proofs have for them. Definitions only.
use Rattle.std.specs.Prelude.{List, ℕ, ◌+◌, set, Float}
use Rattle.float.specs.Float.{add64, mul64}
use Rattle.store.specs.Loop.{for}
use Rattle.store.specs.Region.{at, idx}
use Rattle.galerkin.specs.Whole.{half}
use Rattle.galerkin.specs.Values.{zero_entry}

-- fine entry e more: `*coefficients.entry(..).or_insert(0.0) += values[e]`
unfoldable pub add_entry : List ℕ → List Float → ℕ → List Float → List Float
add_entry positions values e v = set v (idx positions e) (add64 (at v (idx positions e)) (at values e))

-- the entries from lo to hi, all of one row
unfoldable pub zero_entries : List ℕ → ℕ → ℕ → ℕ → List Float → List Float
zero_entries columns row lo hi v = for (zero_entry columns row) lo hi v

-- the entries of `row`
abbrev pub zero_row : List ℕ → List ℕ → ℕ → List Float → List Float
zero_row offsets columns row v = zero_entries columns row (idx offsets row) (idx offsets (row + 1)) v

-- `0.5 * x + 0.5 * y`
abbrev pub mean_of : Float → Float → Float
mean_of x y = add64 (mul64 half x) (mul64 half y)
