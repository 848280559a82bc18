-- What the functions of the load require and ensure. Definitions only.
use Rattle.std.specs.Prelude.{◌≡◌, ℕ, ◌+◌, ◌-◌, ◌*◌, ◌%◌, ◌<◌, ◌≤◌, Bool, true, false, cond, not, ◌&&◌, List, [], ◌∷◌, ◌++◌, map, length, pos, ◌==◌, nat_le, slice_index_or, Float, Result, Ok, Err}
use Rattle.std.specs.Float.{binary64}
use Rattle.std.specs.Float.Ieee.{of_int, neg}
use Rattle.float.specs.Float.{zero64, sub64}
use Rattle.refusal.specs.Refusal.{bad_load}
use Rattle.store.specs.Region.{at, idx, splice}
use Rattle.store.specs.Vector.{tab}
use Rattle.load.specs.declared.drawing.Drawn.{Drawn}
use Rattle.load.specs.declared.drawing.Draws.{Draws}
use Rattle.load.specs.declared.laying.Mirrors.{Mirrors}
use Rattle.load.specs.declared.laying.Reached.{Reached}
use Rattle.refusal.specs.declared.Refusal.{Refusal}
use Rattle.load.specs.declared.cells.Extents.{Extents}
use Rattle.load.specs.declared.cells.Cell.{Cell}
use Rattle.load.specs.declared.cells.Faces.{Faces}
use Rattle.load.specs.Box.{Grid, Axis, has_ahead, has_behind, box, cells_of, extents_ok}
use Rattle.load.specs.Draw.{next_of, state_of, drawn_of}
use Rattle.load.specs.Load.{joined, draws_before, columns_in, wholes_in, row_start, Room, room_ok}

-- ---- draws

-- One draw where there is a face, else none.
pub record Drew (face : Bool) (seed s : ℕ) (r : Drawn) : Type 0 where
  pub state : r.state ≡ cond face (next_of s) s
  pub conductance : r.conductance ≡ cond face (1 + drawn_of seed (next_of s) % 1024) 0
  pub small : r.conductance ≤ 1024

-- ---- cells

-- x where it is there
abbrev pub optional : {A : Type 0} → Bool → A → List A
optional there x = cond there (x ∷ []) []

-- the extents as a list
abbrev pub list_of : Extents → List ℕ
list_of e = e.width ∷ e.height ∷ e.depth ∷ []

-- the box of these extents
abbrev pub grid_of : Extents → Grid
grid_of e = box (list_of e)

-- the first axis
abbrev pub axis₀ : Extents → Axis
axis₀ e = record { stride = 1; extent = e.width }

-- the second
abbrev pub axis₁ : Extents → Axis
axis₁ e = record { stride = 1 * e.width; extent = e.height }

-- the third
abbrev pub axis₂ : Extents → Axis
axis₂ e = record { stride = 1 * e.width * e.height; extent = e.depth }

-- Extents of at most 65,536 cells, and at least one.
pub record Few (e : Extents) : Type 0 where
  pub wide : 0 < e.width
  pub high : 0 < e.height
  pub deep : 0 < e.depth
  pub narrow : e.width ≤ 65536
  pub layer : e.width * e.height ≤ 65536
  pub cells : e.width * e.height * e.depth ≤ 65536

-- A cell's number and where it stands along each axis agree.
pub record Placed (e : Extents) (c : Cell) : Type 0 where
  pub number : c.number ≡ c.x + e.width * (c.y + e.height * c.z)
  pub x : c.x < e.width
  pub y : c.y < e.height
  pub z : c.z ≤ c.number
  pub small : c.number ≤ 65536

-- Which faces cell i has.
pub record FacesAre (e : Extents) (i : ℕ) (f : Faces) : Type 0 where
  pub left : f.left ≡ has_behind (axis₀ e) i
  pub up : f.up ≡ has_behind (axis₁ e) i
  pub shallower : f.shallower ≡ has_behind (axis₂ e) i
  pub right : f.right ≡ has_ahead (axis₀ e) i
  pub down : f.down ≡ has_ahead (axis₁ e) i
  pub deeper : f.deeper ≡ has_ahead (axis₂ e) i

-- 1 where it is there, else 0
abbrev pub one : Bool → ℕ
one there = cond there 1 0

-- How many entries the row of a cell with these faces has.
abbrev pub count_of : Faces → ℕ
count_of f = one f.shallower + one f.up + one f.left + 1 + one f.right + one f.down + one f.deeper

-- ---- the draws of a cell

-- the state after a draw for a face, where there is one
abbrev pub after : Bool → ℕ → ℕ
after face s = cond face (next_of s) s

-- the conductance that such a draw gives; 0 where there is no face
abbrev pub taken : Bool → ℕ → ℕ → ℕ
taken face seed s = cond face (1 + drawn_of seed (next_of s) % 1024) 0

-- The draws of a cell for its faces ahead, one after the other.
pub record DrewAll (f : Faces) (seed s : ℕ) (r : Draws) : Type 0 where
  pub right : r.right ≡ taken f.right seed s
  pub down : r.down ≡ taken f.down seed (after f.right s)
  pub deeper : r.deeper ≡ taken f.deeper seed (after f.down (after f.right s))
  pub state : r.state ≡ after f.deeper (after f.down (after f.right s))
  pub first : r.right ≤ 1024
  pub second : r.down ≤ 1024
  pub third : r.deeper ≤ 1024

-- ---- the entries of a row

-- The mirror of an entry behind stands in an earlier row, so many entries before that row's end.
pub record MirrorOk (there : Bool) (i stride back : ℕ) (offsets : List ℕ) (size : ℕ) : Type 0 where
  pub behind : there ≡ true → stride ≤ i
  pub near : there ≡ true → i - stride + 1 < length offsets
  pub from : there ≡ true → back ≤ idx offsets (i - stride + 1)
  pub to : there ≡ true → idx offsets (i - stride + 1) ≤ size
  pub some : 0 < back

-- its value; zero where there is no face
abbrev pub mirror_at : Bool → ℕ → ℕ → ℕ → List ℕ → List Float → Float
mirror_at there i stride back offsets values = cond there (at values (idx offsets (i - stride + 1) - back)) zero64

-- The mirrors of a row's entries behind the diagonal are where they are looked for.
pub record MirrorsOk (e : Extents) (i : ℕ) (f : Faces) (offsets : List ℕ) (size : ℕ) : Type 0 where
  pub left : MirrorOk f.left i 1 (1 + one f.down + one f.deeper) offsets size
  pub up : MirrorOk f.up i e.width (1 + one f.deeper) offsets size
  pub shallower : MirrorOk f.shallower i (e.width * e.height) 1 offsets size

-- They are read.
pub record MirrorsAre (e : Extents) (i : ℕ) (f : Faces) (offsets : List ℕ) (values : List Float) (r : Mirrors) : Type 0 where
  pub left : r.left ≡ mirror_at f.left i 1 (1 + one f.down + one f.deeper) offsets values
  pub up : r.up ≡ mirror_at f.up i e.width (1 + one f.deeper) offsets values
  pub shallower : r.shallower ≡ mirror_at f.shallower i (e.width * e.height) 1 offsets values

-- the diagonal: one more than the conductances drawn, less the entries behind, which are negative
abbrev pub own_sum : Mirrors → Draws → Float
own_sum m d = sub64 (sub64 (sub64 (of_int binary64 (pos (1 + d.right + d.down + d.deeper))) m.left) m.up) m.shallower

-- There is room for k entries from p on.
pub record RoomFor (k p size_c size_f : ℕ) : Type 0 where
  pub columns : p + k ≤ size_c
  pub values : p + k ≤ size_f

-- The columns l and the values v were laid from p on, up to r.
pub record Pushed (p : ℕ) (l : List ℕ) (v : List Float) (C C' : List ℕ) (F F' : List Float) (r : ℕ) : Type 0 where
  pub columns : C' ≡ splice p l C
  pub values : F' ≡ splice p v F
  pub end : r ≡ p + length l
  pub same : length v ≡ length l
  pub size_c : length C' ≡ length C
  pub size_f : length F' ≡ length F

-- the columns of the row of cell i behind the diagonal, by its faces
abbrev pub columns_behind : Extents → ℕ → Faces → List ℕ
columns_behind e i f =
    optional f.shallower (i - e.width * e.height) ++ (optional f.up (i - e.width) ++ optional f.left (i - 1))

-- those ahead of it
abbrev pub columns_ahead : Extents → ℕ → Faces → List ℕ
columns_ahead e i f = optional f.right (i + 1) ++ (optional f.down (i + e.width) ++ optional f.deeper (i + e.width * e.height))

-- the values behind the diagonal
abbrev pub values_behind : Faces → Mirrors → List Float
values_behind f m = optional f.shallower m.shallower ++ (optional f.up m.up ++ optional f.left m.left)

-- the values ahead of it
abbrev pub values_ahead : Faces → Draws → List Float
values_ahead f d =
    optional f.right (neg (of_int binary64 (pos d.right)))
    ++ (optional f.down (neg (of_int binary64 (pos d.down))) ++ optional f.deeper (neg (of_int binary64 (pos d.deeper))))

-- The cell i that a row is laid for: its neighbours' numbers are numbers of cells.
pub record RowOk (e : Extents) (i : ℕ) (f : Faces) : Type 0 where
  pub cell : i ≤ 65536
  pub narrow : e.width ≤ 65536
  pub layer : e.width * e.height ≤ 65536
  pub left : f.left ≡ true → 1 ≤ i
  pub up : f.up ≡ true → e.width ≤ i
  pub shallower : f.shallower ≡ true → e.width * e.height ≤ i

-- Each draw is of 1 to 1,024, or 0.
pub record DrawsSmall (d : Draws) : Type 0 where
  pub right : d.right ≤ 1024
  pub down : d.down ≤ 1024
  pub deeper : d.deeper ≤ 1024

-- ---- cell by cell

-- The rows before cell c are laid, r says how far: where they end, and the state after their draws. Their offsets and this row's stand.
pub record CellOk (seed : ℕ) (e : Extents) (c : Cell) (r : Reached) (offsets : List ℕ) (size : ℕ) (values : List Float) : Type 0 where
  pub few : Few e
  pub placed : Placed e c
  pub deep : c.z < e.depth
  pub small : c.number < 65536
  pub end : r.end ≡ row_start (grid_of e) c.number
  pub state : r.state ≡ state_of seed (draws_before (grid_of e) c.number)
  pub near : c.number < length offsets
  pub room : row_start (grid_of e) (c.number + 1) ≤ size
  pub places : row_start (grid_of e) (c.number + 1) ≤ length values
  pub starts : (j : ℕ) → j ≤ c.number → idx offsets j ≡ row_start (grid_of e) j
  pub written : (q : ℕ) → q < row_start (grid_of e) c.number
      → at values q ≡ of_int binary64 (slice_index_or (joined (wholes_in seed (grid_of e)) c.number) q (pos 0))

-- The row of cell i is laid behind them.
pub record CellDone (seed : ℕ) (e : Extents) (i : ℕ) (before : Reached) (C C' : List ℕ) (F F' : List Float) (r : Reached) : Type 0 where
  pub row : Pushed before.end (columns_in (grid_of e) i) (map (of_int binary64) (wholes_in seed (grid_of e) i)) C C' F F' r.end
  pub end : r.end ≡ row_start (grid_of e) (i + 1)
  pub state : r.state ≡ state_of seed (draws_before (grid_of e) (i + 1))

-- There is room for the rows of so many cells, all that the box has.
pub record CellsOk (e : Extents) (cells size_o size_c size_f : ℕ) : Type 0 where
  pub few : Few e
  pub all : cells ≡ e.width * e.height * e.depth
  pub offsets : cells + 1 ≤ size_o
  pub room : row_start (grid_of e) cells ≤ size_c
  pub places : row_start (grid_of e) cells ≤ size_f

-- The rows of the first n cells are laid, and their offsets.
pub record CellsDone (seed : ℕ) (e : Extents) (n : ℕ) (O O' C C' : List ℕ) (F F' : List Float) (r : Reached) : Type 0 where
  pub offsets : O' ≡ splice 0 (tab (row_start (grid_of e)) n) O
  pub rows : Pushed 0 (joined (columns_in (grid_of e)) n) (map (of_int binary64) (joined (wholes_in seed (grid_of e)) n)) C C' F F' r.end
  pub end : r.end ≡ row_start (grid_of e) n
  pub state : r.state ≡ state_of seed (draws_before (grid_of e) n)
  pub size : length O' ≡ length O

-- ---- the call

-- n where it is at most 65,536, else 0
abbrev pub capped : ℕ → ℕ
capped n = cond (nat_le n 65536) n 0

-- Extents, cells and entries that a load is made of.
pub record Writable (e : Extents) (cells entries : ℕ) (room : Room) : Type 0 where
  pub few : Few e
  pub all : cells ≡ e.width * e.height * e.depth
  pub same : cells ≡ cells_of (list_of e)
  pub counted : entries ≡ row_start (grid_of e) cells
  pub offsets : cells + 1 ≤ room.offsets
  pub columns : entries ≤ room.columns
  pub values : entries ≤ room.values

-- whether there is a load
abbrev pub is_load : ℕ → Extents → Room → Bool
is_load seed e room = not (seed == 0) && extents_ok (list_of e) && room_ok (grid_of e) room

-- The question of a load: its cells where there is one, else refusal 35.
abbrev pub AskedOf : ℕ → Extents → Room → Result ℕ Refusal → Type 0
AskedOf seed e room (Ok cells) = (is_load seed e room ≡ true) × Writable e cells (row_start (grid_of e) cells) room
AskedOf seed e room (Err q) = (is_load seed e room ≡ false) × (q ≡ bad_load)

-- The load of so many cells is written.
pub record Written (seed : ℕ) (e : Extents) (cells : ℕ) (O O' C C' : List ℕ) (F F' : List Float) (r : ℕ) : Type 0 where
  pub offsets : O' ≡ splice 0 (tab (row_start (grid_of e)) (cells + 1)) O
  pub columns : C' ≡ splice 0 (joined (columns_in (grid_of e)) cells) C
  pub values : F' ≡ splice 0 (map (of_int binary64) (joined (wholes_in seed (grid_of e)) cells)) F
  pub end : r ≡ row_start (grid_of e) cells
  pub size_o : length O' ≡ length O
  pub size_c : length C' ≡ length C
  pub size_f : length F' ≡ length F
