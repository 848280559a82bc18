-- The pairing: the turns of the loops, by the names that proofs have for them. Definitions only.
use Rattle.std.specs.Prelude.{Bool, cond, List, map, ℕ, ◌-◌, Float}
use Rattle.float.specs.Float.{abs_of}
use Rattle.store.specs.Region.{at, idx}
use Rattle.store.specs.Vector.{tab}
use Rattle.aggregation.specs.declared.Choice.{Choice}
use Rattle.aggregation.specs.Pairs.{Weighted, size_of, is_full, consider_of, Pairing, pair_row_of}

-- the strength of one entry: its weight, or, where no weights are given, the absolute value of the matrix there
abbrev pub strength_of : Bool → Float → Float
strength_of absolute x = cond absolute (abs_of x) x

-- such a matrix
abbrev pub weighted : ℕ → List ℕ → List ℕ → List Float → ℕ → Weighted
weighted n o c v cap = record { rows = n; offsets = o; columns = c; weights = v; cap = cap }

-- the size of each aggregate of a map, of n at most
abbrev pub sizes_of : ℕ → List ℕ → List ℕ
sizes_of n map = tab (size_of map) n

-- entry e of a row, by the map so far
unfoldable pub entry_of : Weighted → List ℕ → ℕ → ℕ → Choice → Choice
entry_of a map row e s =
    let cluster = idx map (idx a.columns e) in
    consider_of a.rows row (idx a.columns e) (at a.weights e) cluster (is_full a.cap map cluster) s

-- the row of a turn: rows upward, or downward
abbrev pub row_of : Bool → ℕ → ℕ → ℕ
row_of forward n index = cond forward index (n - 1 - index)

-- one turn
unfoldable pub turn_of : Weighted → Bool → ℕ → Pairing → Pairing
turn_of a forward index p = pair_row_of a (row_of forward a.rows index) p
