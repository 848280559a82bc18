-- Where `pairs` finds its lists in the stores, and what its functions require and ensure. Definitions only.
use Rattle.std.specs.Prelude.{◌≡◌, Bool, false, cond, List, ℕ, ◌+◌, ◌≤◌, ◌<◌, eqb, leb, length, set, Float}
use Rattle.store.specs.Region.{idx, part, Kept}
use Rattle.aggregation.specs.declared.Graph.{Graph}
use Rattle.aggregation.specs.Pairs.{Weighted, strengths_of, Pairing}
use Rattle.aggregation.specs.Turns.{weighted, sizes_of}
use Rattle.aggregation.specs.Contract.{InRange}

-- the row offsets in the words w
abbrev pub offsets_at : Graph → List ℕ → List ℕ
offsets_at g w = part g.offsets (g.rows + 1) w

-- the columns
abbrev pub columns_at : Graph → List ℕ → List ℕ
columns_at g w = part g.columns g.entries w

-- the map
abbrev pub map_at : Graph → List ℕ → List ℕ
map_at g w = part g.map g.rows w

-- the sizes of the aggregates, behind the map
abbrev pub sizes_at : Graph → List ℕ → List ℕ
sizes_at g w = part (g.map + g.rows) g.rows w

-- the pattern in the words w, with the strengths in the floats F
abbrev pub weighted_at : Graph → List ℕ → List Float → Weighted
weighted_at g w F =
    weighted g.rows (offsets_at g w) (columns_at g w) (strengths_of g.absolute (part g.weights g.entries F)) g.cap

-- what `pairs` requires of the words w and of the number of floats: the pattern lies below the map and is in range
pub record GraphOk (w : List ℕ) (floats : ℕ) (g : Graph) : Type 0 where
  pub few : g.rows ≤ 65536
  pub offsets : g.offsets + g.rows + 1 ≤ g.map
  pub columns : g.columns + g.entries ≤ g.map
  pub map : g.map + g.rows + g.rows ≤ length w
  pub weights : g.weights + g.entries ≤ floats
  pub pattern : InRange g.rows g.entries (offsets_at g w) (columns_at g w)

-- what the choice of a row requires: each row of the map so far is free or in an aggregate below the rows, and the sizes are the map's
pub record ChoiceOk (w : List ℕ) (floats : ℕ) (g : Graph) (row : ℕ) : Type 0 where
  pub graph : GraphOk w floats g
  pub inside : row < g.rows
  pub range : (i : ℕ) → i < g.rows → idx (map_at g w) i ≤ g.rows
  pub sizes : sizes_at g w ≡ sizes_of g.rows (map_at g w)

-- what one row requires: besides, a number is left for one aggregate more than the `count` so far
pub record RowOk (w : List ℕ) (floats : ℕ) (g : Graph) (row count : ℕ) : Type 0 where
  pub choice : ChoiceOk w floats g row
  pub few : count < g.rows

-- whether the aggregate `cluster` is full, by its size in the words; a free row is in none
unfoldable pub full_at : Graph → List ℕ → ℕ → Bool
full_at g w cluster =
    cond (eqb g.cap 0) false (cond (leb g.rows cluster) false (leb g.cap (idx w (g.map + g.rows + cluster))))

-- The map m is written with the sizes of its aggregates, and no other word changes.
pub record Mapped (g : Graph) (m w w' : List ℕ) : Type 0 where
  pub map : map_at g w' ≡ m
  pub sizes : sizes_at g w' ≡ sizes_of g.rows m
  pub below : Kept g.map w w'
  pub above : (a n : ℕ) → g.map + g.rows + g.rows ≤ a → part a n w' ≡ part a n w

-- what it takes to put a free row into an aggregate
pub record JoinOk (w : List ℕ) (g : Graph) (row cluster : ℕ) : Type 0 where
  pub few : g.rows ≤ 65536
  pub room : g.map + g.rows + g.rows ≤ length w
  pub inside : row < g.rows
  pub below : cluster < g.rows
  pub free : idx (map_at g w) row ≡ g.rows
  pub sizes : sizes_at g w ≡ sizes_of g.rows (map_at g w)

-- what that ensures
abbrev pub Joined : Graph → ℕ → ℕ → List ℕ → List ℕ → Type 0
Joined g row cluster w w' = Mapped g (set (map_at g w) row cluster) w w'

-- what `pairs` ensures, and one row: the map of p is written with its sizes, and the answer is the count of p
pub record Paired (g : Graph) (p : Pairing) (w w' : List ℕ) (r : ℕ) : Type 0 where
  pub words : Mapped g p.map w w'
  pub count : r ≡ p.count
