-- `pairs` of aggregation.rs over lists: connected strength-based aggregation. Definitions only.
-- Of n rows, n stands in a map for "no aggregate yet" (`usize::MAX`), and in a choice for `None`. The Rust has no cap.
use Rattle.std.specs.Prelude.{Bool, false, cond, List, [], ◌∷◌, map, ℕ, ◌+◌, ◌-◌, eqb, leb, set, Float}
use Rattle.std.specs.Float.Ieee.{lt}
use Rattle.float.specs.Float.{zero64, abs_of}
use Rattle.store.specs.Loop.{for}
use Rattle.store.specs.Region.{at, idx}
use Rattle.store.specs.Vector.{filled}
use Rattle.aggregation.specs.declared.Choice.{Choice}

-- a matrix's pattern in compressed rows, with the strength of each entry, and the cap of its aggregates in rows, 0 for none
pub record Weighted : Type 0 where
  pub rows : ℕ
  pub offsets : List ℕ
  pub columns : List ℕ
  pub weights : List Float
  pub cap : ℕ

-- the strengths of all entries
unfoldable pub strengths_of : Bool → List Float → List Float
strengths_of absolute v = cond absolute (map abs_of v) v

-- how many rows of a map are in the aggregate a
unfoldable pub size_of : List ℕ → ℕ → ℕ
size_of [] a = 0
size_of (c ∷ map) a = cond (eqb c a) 1 0 + size_of map a

-- whether the aggregate a of a map is full: it has as many rows as the cap, where there is one
abbrev pub is_full : ℕ → List ℕ → ℕ → Bool
is_full cap map a = cond (eqb cap 0) false (leb cap (size_of map a))

-- a row's strongest free neighbour and its weight, and the aggregate of its strongest assigned one and that one's weight
abbrev pub choice : ℕ → Float → ℕ → Float → Choice
choice f x a y = record { free = f; adjacent = a; freeweight = x; adjacentweight = y }

-- one entry: not the diagonal; a free neighbour, or one of the aggregate `cluster`, may be the strongest of its kind so far. The test,
-- `weight > best`, is strict, so that of equal weights the first in row order stays. One whose aggregate is full is passed over.
unfoldable pub consider_of : ℕ → ℕ → ℕ → Float → ℕ → Bool → Choice → Choice
consider_of n row column weight cluster full s =
    cond (eqb column row) s (cond (eqb cluster n)
    (cond (lt s.freeweight weight) (choice column weight s.adjacent s.adjacentweight) s)
    (cond full s (cond (lt s.adjacentweight weight) (choice s.free s.freeweight cluster weight) s)))

-- the choice of a row, by the map so far: all its entries, from none
unfoldable pub strongest_of : Weighted → List ℕ → ℕ → Choice
strongest_of a map row =
    for (λ e. let cluster = idx map (idx a.columns e) in
    consider_of a.rows row (idx a.columns e) (at a.weights e) cluster (is_full a.cap map cluster))
    (idx a.offsets row) (idx a.offsets (row + 1)) (choice a.rows zero64 a.rows zero64)

-- the aggregate of each row, and how many there are
pub record Pairing : Type 0 where
  pub map : List ℕ
  pub count : ℕ

-- such a pairing
abbrev pub pairing : List ℕ → ℕ → Pairing
pairing m c = record { map = m; count = c }

-- a free row makes an aggregate with its free neighbour, else joins that of its assigned one, else makes one alone
unfoldable pub assign_of : ℕ → ℕ → Choice → Pairing → Pairing
assign_of n row s p =
    cond (eqb s.free n)
    (cond (eqb s.adjacent n) (pairing (set p.map row p.count) (p.count + 1)) (pairing (set p.map row s.adjacent) p.count))
    (pairing (set (set p.map row p.count) s.free p.count) (p.count + 1))

-- one row: passed over where it is assigned already
unfoldable pub pair_row_of : Weighted → ℕ → Pairing → Pairing
pair_row_of a row p = cond (eqb (idx p.map row) a.rows) (assign_of a.rows row (strongest_of a p.map row) p) p

-- `pairs`: the rows upward, or downward, from none assigned
unfoldable pub pairs_of : Weighted → Bool → Pairing
pairs_of a forward =
    for (λ index. pair_row_of a (cond forward index (a.rows - 1 - index))) 0 a.rows (pairing (filled a.rows a.rows) 0)
