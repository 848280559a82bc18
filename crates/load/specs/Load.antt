-- The load of a seed on a grid: each face takes a conductance from the next draw, cell by cell, each cell's faces ahead in their order.
-- An entry off the diagonal is the negative of its face's conductance, one on it the sum of the cell's faces plus 1.
-- Definitions only.
use Rattle.std.specs.Prelude.{ℕ, zero, suc, ◌+◌, ◌%◌, min, max, Bool, cond, not, ◌&&◌, List, [], ◌∷◌, ◌++◌, map, length, ℤ, pos, neg_ℤ, ◌==◌, nat_le, Float}
use Rattle.std.specs.Float.{binary64}
use Rattle.std.specs.Float.Ieee.{of_int}
use Rattle.refusal.specs.Outcome.{Outcome, accepted, ask}
use Rattle.refusal.specs.Refusal.{bad_load}
use Rattle.store.specs.Vector.{tab}
use Rattle.pattern.specs.Pattern.{Pattern, sum_to}
use Rattle.load.specs.Box.{Grid, box, extents_ok}
use Rattle.load.specs.Draw.{draw_of}

-- ---- lists

-- the lists f 0, .., f (n - 1), one after the other
unfoldable pub joined : {A : Type 0} → (ℕ → List A) → ℕ → List A
joined f zero = []
joined f (suc n) = joined f n ++ f n

-- where j stands in a list
unfoldable pub place_in : ℕ → List ℕ → ℕ
place_in j [] = 0
place_in j (x ∷ rest) = cond (x == j) 0 (1 + place_in j rest)

-- f x for each x of a list, added up
unfoldable pub total : (ℕ → ℕ) → List ℕ → ℕ
total f [] = 0
total f (x ∷ rest) = f x + total f rest

-- ---- the faces and their conductances

-- how many faces the cells before cell i have ahead of them: as many draws are made before cell i
unfoldable pub draws_before : Grid → ℕ → ℕ
draws_before m i = sum_to (λ c. length (m.ahead c)) i

-- the number of the face between cell i and the cell j ahead of it
unfoldable pub face_of : Grid → ℕ → ℕ → ℕ
face_of m i j = draws_before m i + place_in j (m.ahead i)

-- the conductance of the face between two cells, whichever of them is named first: 1 to 1,024
unfoldable pub conductance_of : ℕ → Grid → ℕ → ℕ → ℕ
conductance_of seed m i j = 1 + draw_of seed (face_of m (min i j) (max i j)) % 1024

-- ---- the rows

-- the columns of row i: the cells behind, the cell itself, the cells ahead
unfoldable pub columns_in : Grid → ℕ → List ℕ
columns_in m i = m.behind i ++ (i ∷ m.ahead i)

-- the diagonal of row i: the sum of the cell's faces, plus 1
unfoldable pub own_of : ℕ → Grid → ℕ → ℕ
own_of seed m i = 1 + total (conductance_of seed m i) (m.behind i) + total (conductance_of seed m i) (m.ahead i)

-- the entry of row i in column j, off the diagonal
abbrev pub off_of : ℕ → Grid → ℕ → ℕ → ℤ
off_of seed m i j = neg_ℤ (pos (conductance_of seed m i j))

-- the entries of row i, whole numbers, each below its column
unfoldable pub wholes_in : ℕ → Grid → ℕ → List ℤ
wholes_in seed m i = map (off_of seed m i) (m.behind i) ++ (pos (own_of seed m i) ∷ map (off_of seed m i) (m.ahead i))

-- where the rows start, and the number of entries
unfoldable pub row_start : Grid → ℕ → ℕ
row_start m i = sum_to (λ c. length (columns_in m c)) i

-- ---- the load

-- the pattern: one row to a cell
abbrev pub pattern_of : Grid → Pattern
pattern_of m = record {
  rows = m.cells;
  offsets = tab (row_start m) (m.cells + 1);
  columns = joined (columns_in m) m.cells;
}

-- the entries, row by row, as whole numbers
unfoldable pub wholes_of : ℕ → Grid → List ℤ
wholes_of seed m = joined (wholes_in seed m) m.cells

-- the values: these as floats
unfoldable pub values_of : ℕ → Grid → List Float
values_of seed m = map (of_int binary64) (wholes_of seed m)

-- a load as it is written: a pattern and its values
pub record Load : Type 0 where
  pub pattern : Pattern
  pub values : List Float

-- the load of a seed on a grid
abbrev pub load_on : ℕ → Grid → Load
load_on seed m = record { pattern = pattern_of m; values = values_of seed m }

-- the lengths of the slices that are lent
pub record Room : Type 0 where
  pub offsets : ℕ
  pub columns : ℕ
  pub values : ℕ

-- whether a load has room: an offset more than cells, and a column and a value for each entry
unfoldable pub room_ok : Grid → Room → Bool
room_ok m room = nat_le (m.cells + 1) room.offsets && nat_le (row_start m m.cells) room.columns && nat_le (row_start m m.cells) room.values

-- the load of a seed on the box of these extents, or refusal 35: a zero seed, a zero extent, more than 65,536 cells, too little room
abbrev pub load_of : ℕ → List ℕ → Room → Outcome Load
load_of seed extents room =
    ask (not (seed == 0) && extents_ok extents && room_ok (box extents) room) bad_load (accepted (load_on seed (box extents)))
