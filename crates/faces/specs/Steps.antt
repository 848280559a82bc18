-- What the inner functions require and ensure.
-- Definitions only.
use Rattle.std.specs.Prelude.{◌≡◌, Bool, true, cond, List, Option, Some, None, ℕ, ◌+◌, ◌≤◌, ◌<◌, length, set}
use Rattle.store.specs.Region.{idx}
use Rattle.pattern.specs.Pattern.{how_many, column_of, row_of}
use Rattle.faces.specs.declared.faces.Faces.{Faces}
use Rattle.faces.specs.Faces.{above, has_entry, stands_at}
use Rattle.faces.specs.Contract.{pattern_at, Standing, Ordered}

-- The entries before row i have `found` faces.
pub record CountOk (w : List ℕ) (s : Faces) (i found : ℕ) : Type 0 where
  pub standing : Standing w s
  pub near : i < s.rows
  pub before : found ≡ how_many (above (pattern_at w s)) (idx (pattern_at w s).offsets i)

-- Those before the next row have r.
pub record Counted (w : List ℕ) (s : Faces) (i r : ℕ) : Type 0 where
  pub count : r ≡ how_many (above (pattern_at w s)) (idx (pattern_at w s).offsets (i + 1))

-- Entry e, whose row is not before `from`.
pub record SeekOk (w : List ℕ) (s : Faces) (from e : ℕ) : Type 0 where
  pub standing : Standing w s
  pub near : e < s.entries
  pub behind : from ≤ row_of (pattern_at w s) e

-- Its row is r.
pub record Sought (w : List ℕ) (s : Faces) (e r : ℕ) : Type 0 where
  pub row : r ≡ row_of (pattern_at w s) e

-- If v is wanted, there is room for it behind the k words at `to`.
pub record PushOk (size to k v : ℕ) (wanted : Bool) : Type 0 where
  pub small : v ≤ 1048576
  pub less : k ≤ 1048576
  pub room : wanted ≡ true → to + k < size

-- If v is wanted, it stands there; r words are there then.
pub record Pushed (w z : List ℕ) (to k v : ℕ) (wanted : Bool) (r : ℕ) : Type 0 where
  pub next : r ≡ k + cond wanted 1 0
  pub is : z ≡ cond wanted (set w (to + k) v) w

-- Columns from lo to hi that rise.
pub record FindOk (w : List ℕ) (columns lo hi : ℕ) : Type 0 where
  pub order : lo ≤ hi
  pub room : columns + hi ≤ length w
  pub rising : (d e : ℕ) → lo ≤ d → d < e → e < hi → idx w (columns + d) < idx w (columns + e)

-- r is the first of them that is not below `column`.
pub record Found (w : List ℕ) (columns lo hi column r : ℕ) : Type 0 where
  pub low : lo ≤ r
  pub high : r ≤ hi
  pub below : (e : ℕ) → lo ≤ e → e < r → idx w (columns + e) < column
  pub past : (e : ℕ) → r ≤ e → e < hi → column ≤ idx w (columns + e)

-- Row i, whose columns rise.
pub record EntryOk (w : List ℕ) (s : Faces) (i : ℕ) : Type 0 where
  pub ordered : Ordered w s
  pub near : i < s.rows

-- The entry in row i and column j, if there is one.
pub record Entry (w : List ℕ) (s : Faces) (i j : ℕ) (r : Option ℕ) : Type 0 where
  pub is : r ≡ cond (has_entry (pattern_at w s) i j) (Some (stands_at (pattern_at w s) i j)) None

-- Entry e, with its row and column.
pub record MirrorOk (w : List ℕ) (s : Faces) (row column e : ℕ) : Type 0 where
  pub ordered : Ordered w s
  pub near : e < s.entries
  pub is : row ≡ row_of (pattern_at w s) e
  pub stands : column ≡ column_of (pattern_at w s) e
