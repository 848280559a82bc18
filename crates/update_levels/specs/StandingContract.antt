-- Question 11 of an update: what the functions require of the words at a place. Definitions only.
use Rattle.std.specs.Prelude.{false, List, ℕ, ◌+◌, ◌≤◌, ◌<◌, length}
use Rattle.store.specs.Region.{idx}
use Rattle.hierarchy.specs.Level.{Shape}
use Rattle.layout.specs.declared.Place.{Place}
use Rattle.layout.specs.Layout.{shape_at}

-- What question 11 requires of the words at p.
pub record RowsOk (w : List ℕ) (p : Place) : Type 0 where
  pub offsets : p.offsets + (p.rows + 1) ≤ length w
  pub columns : p.columns + p.entries ≤ length w
  pub diagonals : p.diagonals + p.rows ≤ length w
  pub own : (k : ℕ) → k < p.rows → idx w (p.diagonals + k) < p.entries

-- The same for one row.
pub record RowOk (w : List ℕ) (p : Place) (row : ℕ) : Type 0 where
  pub rows : RowsOk w p
  pub within : row < p.rows
  pub own : idx w (p.diagonals + row) < p.entries

-- the pattern and the diagonal entries at p as a shape, of which question 11 reads no more
abbrev pub bare_at : List ℕ → Place → Shape
bare_at w p = shape_at w p false 0
