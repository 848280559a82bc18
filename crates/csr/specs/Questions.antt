-- Questions 1 to 3 of document 01, of a matrix in compressed rows as it is lent: arrays of any lengths.
-- Definitions only.
use Rattle.std.specs.Prelude.{Bool, ◌&&◌, ◌||◌, List, ℕ, ◌+◌, ◌-◌, eqb, leb, ltb, length, Float}
use Rattle.store.specs.Region.{idx}
use Rattle.store.specs.Vector.{each}
use Rattle.refusal.specs.Outcome.{Outcome, passed, ask, ◌>>◌}
use Rattle.refusal.specs.Refusal.{too_large, bad_offsets, bad_columns}

-- question 1: at most 65,536 rows and 1,048,576 entries
unfoldable pub size_ok : ℕ → List ℕ → Bool
size_ok rows columns = leb rows 65536 && leb (length columns) 1048576

-- whether no row ends before it starts
unfoldable pub never_fall : ℕ → List ℕ → Bool
never_fall rows offsets = each (λ r. leb (idx offsets r) (idx offsets (r + 1))) rows

-- question 2: rows + 1 offsets, starting at 0, never falling, ending at the entry count, and as many values as columns
unfoldable pub offsets_ok : ℕ → List ℕ → List ℕ → List Float → Bool
offsets_ok rows offsets columns values =
    eqb (length offsets) (rows + 1) && eqb (idx offsets 0) 0 && never_fall rows offsets
    && eqb (idx offsets rows) (length columns) && eqb (length values) (length columns)

-- the test of entry e in a row that ends at `last`: its column is below the rows, and below the row's next one
unfoldable pub entry_ok : ℕ → List ℕ → ℕ → ℕ → Bool
entry_ok rows columns last e = ltb (idx columns e) rows && (leb last (e + 1) || ltb (idx columns e) (idx columns (e + 1)))

-- whether it holds of each entry from `first` up to `last`
unfoldable pub row_ok : ℕ → List ℕ → ℕ → ℕ → Bool
row_ok rows columns first last = each (λ k. entry_ok rows columns last (first + k)) (last - first)

-- question 3: in each row, each column is below the rows, and they rise strictly
unfoldable pub columns_ok : ℕ → List ℕ → List ℕ → Bool
columns_ok rows offsets columns = each (λ r. row_ok rows columns (idx offsets r) (idx offsets (r + 1))) rows

-- questions 1 to 3
abbrev pub matrix_asked : ℕ → List ℕ → List ℕ → List Float → Outcome Unit
matrix_asked rows offsets columns values = do
  ask (size_ok rows columns) too_large
  ask (offsets_ok rows offsets columns values) bad_offsets
  ask (columns_ok rows offsets columns) bad_columns
  passed
