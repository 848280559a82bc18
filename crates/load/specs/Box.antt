-- A box of cells with any number of extents: the first axis is the fastest (right), then down, then deeper, and so on.
-- Definitions only.
use Rattle.std.specs.Prelude.{ℕ, ◌+◌, ◌-◌, ◌*◌, ◌/◌, ◌%◌, Bool, true, cond, ◌&&◌, List, [], ◌∷◌, ◌++◌, nat_le, nat_lt}

-- ---- cells and faces

-- cells 0, .., cells - 1, and for each the cells across its faces: those behind it, with smaller numbers, and those ahead of it
pub record Grid : Type 0 where
  pub cells : ℕ
  pub behind : ℕ → List ℕ
  pub ahead : ℕ → List ℕ

-- ---- the box

-- an axis: how far a step along it moves a cell's number, and how many cells stand along it
pub record Axis : Type 0 where
  pub stride : ℕ
  pub extent : ℕ

-- the axes of these extents: a step along an axis passes all cells of the axes before it
unfoldable pub axes_from : ℕ → List ℕ → List Axis
axes_from stride [] = []
axes_from stride (extent ∷ rest) = record { stride = stride; extent = extent } ∷ axes_from (stride * extent) rest

-- where cell i stands along an axis
unfoldable pub along : Axis → ℕ → ℕ
along a i = i / a.stride % a.extent

-- whether cell i has a face ahead of it along an axis: there is a further cell
unfoldable pub has_ahead : Axis → ℕ → Bool
has_ahead a i = nat_lt (along a i + 1) a.extent

-- whether it has a face behind it: it is not the first
unfoldable pub has_behind : Axis → ℕ → Bool
has_behind a i = nat_lt 0 (along a i)

-- the cells ahead of cell i, axis by axis: right, down, deeper, ..
unfoldable pub ahead_of : List Axis → ℕ → List ℕ
ahead_of [] i = []
ahead_of (a ∷ rest) i = cond (has_ahead a i) ((i + a.stride) ∷ []) [] ++ ahead_of rest i

-- the cells behind cell i, from the last axis to the first: .., shallower, up, left
unfoldable pub behind_of : List Axis → ℕ → List ℕ
behind_of [] i = []
behind_of (a ∷ rest) i = behind_of rest i ++ cond (has_behind a i) ((i - a.stride) ∷ []) []

-- the number of cells: the product of the extents
unfoldable pub cells_of : List ℕ → ℕ
cells_of [] = 1
cells_of (extent ∷ rest) = extent * cells_of rest

-- the box of these extents
abbrev pub box : List ℕ → Grid
box extents = record {
  cells = cells_of extents;
  behind = behind_of (axes_from 1 extents);
  ahead = ahead_of (axes_from 1 extents);
}

-- whether no extent is zero
unfoldable pub all_positive : List ℕ → Bool
all_positive [] = true
all_positive (extent ∷ rest) = nat_lt 0 extent && all_positive rest

-- whether no extent is zero and there are at most 65,536 cells
unfoldable pub extents_ok : List ℕ → Bool
extents_ok extents = all_positive extents && nat_le (cells_of extents) 65536
