-- The values of the coarse matrix (`galerkin` of aggregation.rs) and its weights (`restrict_weights` of hierarchy.rs), over lists,
-- and what the functions that write them require. Definitions only.
use Rattle.std.specs.Prelude.{cond, List, ℕ, ◌+◌, eqb, set, Float}
use Rattle.float.specs.Float.{add64, mul64, zero64}
use Rattle.store.specs.Loop.{for}
use Rattle.store.specs.Region.{at, idx}
use Rattle.store.specs.Vector.{filled}
use Rattle.galerkin.specs.Whole.{half}

-- ---- the coarse values

-- the sums of m fine entries, each at its position, in entry order from plus zero: `*coefficients.entry(..).or_insert(0.0) += values[e]`
unfoldable pub sums_of : ℕ → ℕ → List ℕ → List Float → List Float
sums_of total m positions values =
    for (λ e v. set v (idx positions e) (add64 (at v (idx positions e)) (at values e))) 0 m (filled total zero64)

-- both entries of face k become their mean, `0.5 * x + 0.5 * y`
unfoldable pub average_face : List ℕ → List ℕ → ℕ → List Float → List Float
average_face upper lower k v =
    let mean = add64 (mul64 half (at v (idx upper k))) (mul64 half (at v (idx lower k))) in
    set (set v (idx upper k) mean) (idx lower k) mean

-- half plus half for each mirrored pair, in face order: also `symmetrize_coarse_values` of matrix.rs
unfoldable pub symmetrize_of : ℕ → List ℕ → List ℕ → List Float → List Float
symmetrize_of faces upper lower v = for (average_face upper lower) 0 faces v

-- ---- the coarse weights

-- entry e of `row` becomes zero if it is the diagonal one
unfoldable pub zero_entry : List ℕ → ℕ → ℕ → List Float → List Float
zero_entry columns row e v = cond (eqb (idx columns e) row) (set v e zero64) v

-- the diagonal entries of `count` rows become zero
unfoldable pub zero_diagonal_of : ℕ → List ℕ → List ℕ → List Float → List Float
zero_diagonal_of count offsets columns v = for (λ row. for (zero_entry columns row) (idx offsets row) (idx offsets (row + 1))) 0 count v
