-- What the functions of the index check of one level require and answer. Definitions only.
use Rattle.std.specs.Prelude.{◌≡◌, Bool, true, false, cond, ◌&&◌, List, ℕ, zero, suc, ◌+◌, ◌≤◌, ◌<◌, leb}
use Rattle.store.specs.Region.{idx, part}
use Rattle.store.specs.Vector.{each}
use Rattle.hierarchy.specs.Level.{Shape}
use Rattle.layout.specs.declared.Place.{Place}
use Rattle.layout.specs.Layout.{rows_at, coupled_at, entries_at, shape_at, words_end}
use Rattle.index_check.specs.declared.tables.Targets.{Targets}
use Rattle.index_check.specs.Sound.{all_below, head_sound, head_fits, row_placed}

-- ---- the head

-- whether a level may have so many rows, entries, faces and coupled rows
unfoldable pub sizes_fit : ℕ → ℕ → ℕ → ℕ → Bool
sizes_fit rows entries faces coupled = leb rows 65536 && leb entries 1048576 && leb faces entries && leb coupled rows

-- ---- what links and positions are asked against

-- The head of the level at a, after which so many come, is sound, and so is the next one.
pub record TargetsOk (w : List ℕ) (a more : ℕ) : Type 0 where
  pub head : head_fits more w a ≡ true
  pub next : 1 ≤ more → head_sound w (words_end w a) ≡ true

-- whether it is the last, its links, and the rows and entries that links and positions are below
abbrev pub targets_at : ℕ → List ℕ → ℕ → Targets
targets_at zero w a = record { last = true; links = coupled_at w a; rows = rows_at w a; entries = 0 }
targets_at (suc more) w a = record { last = false; links = rows_at w a; rows = rows_at w (words_end w a); entries = entries_at w (words_end w a) }

-- the shape at a place with such links
abbrev pub shape_to : List ℕ → Place → Targets → Shape
shape_to w p t = shape_at w p t.last t.links

-- ---- the tables of a level

-- The tables of a level lie in a store of that size, and its sizes and those that its links lead to are small.
pub record LevelOk (size : ℕ) (p : Place) (t : Targets) : Type 0 where
  pub rows : p.rows ≤ 65536
  pub entries : p.entries ≤ 1048576
  pub targets : t.rows ≤ 65536
  pub sums : t.entries ≤ 1048576
  pub offsets : p.offsets + p.rows + 1 ≤ size
  pub columns : p.columns + p.entries ≤ size
  pub starts : p.starts + p.rows + 1 ≤ size
  pub diagonals : p.diagonals + p.rows ≤ size
  pub neighbors : p.neighbors + p.faces ≤ size
  pub uppers : p.uppers + p.faces ≤ size
  pub lowers : p.lowers + p.faces ≤ size
  pub links : p.links + t.links ≤ size
  pub linked : cond t.last t.links p.rows ≡ t.links
  pub positions : t.last ≡ false → p.positions + p.entries ≤ size

-- So many numbers lie in a store of that size, and a u32 holds the bound.
pub record BelowOk (size from n bound : ℕ) : Type 0 where
  pub fits : from + n ≤ size
  pub small : bound ≤ 1048576

-- the faces of a place: the column of each is a row, and each stands for two entries
unfoldable pub faces_below : List ℕ → Place → Bool
faces_below w p =
    all_below p.rows (part p.neighbors p.faces w)
    && all_below p.entries (part p.uppers p.faces w)
    && all_below p.entries (part p.lowers p.faces w)

-- whether the number after from + k is not below the one there
abbrev pub rise_at : List ℕ → ℕ → ℕ → Bool
rise_at w from k = leb (idx w (from + k)) (idx w (from + k + 1))

-- where all rows of a shape stand
abbrev pub rows_placed : Shape → Bool
rows_placed s = each (row_placed s) s.pattern.rows

-- ---- one row

-- A row of such a level.
pub record RowOk (size : ℕ) (p : Place) (t : Targets) (row : ℕ) : Type 0 where
  pub level : LevelOk size p t
  pub inside : row < p.rows

-- A run of its entries or faces that does not end before it starts.
pub record RunOk (size : ℕ) (p : Place) (t : Targets) (from to : ℕ) : Type 0 where
  pub level : LevelOk size p t
  pub rises : from ≤ to
