-- The faces of a symmetric matrix, of its pattern alone (`SymmetricMatrix::new` of matrix.rs): a face is an entry above the diagonal.
-- Definitions only.
use Rattle.std.specs.Prelude.{Bool, ◌&&◌, not, List, ℕ, ◌+◌, ◌-◌, eqb, ltb}
use Rattle.refusal.specs.Refusal.{missing_diagonal}
use Rattle.refusal.specs.Outcome.{Outcome, passed, ask, ask_each}
use Rattle.store.specs.Region.{idx}
use Rattle.store.specs.Vector.{tab, each}
use Rattle.pattern.specs.Pattern.{some, how_many, those, Pattern, entries, column_of, row_of}

-- ---- entries above the diagonal

-- whether entry e stands above the diagonal
unfoldable pub above : Pattern → ℕ → Bool
above p e = ltb (row_of p e) (column_of p e)

-- how many entries do: the number of faces
unfoldable pub faces_of : Pattern → ℕ
faces_of p = how_many (above p) (entries p)

-- `face_entries`: these entries, rising
unfoldable pub uppers_of : Pattern → List ℕ
uppers_of p = those (above p) (entries p)

-- `offsets`: for each row the number of faces before it, and last the number of faces
unfoldable pub face_offsets_of : Pattern → List ℕ
face_offsets_of p = tab (λ i. how_many (above p) (idx p.offsets i)) (p.rows + 1)

-- `neighbors`: the column of each face
unfoldable pub neighbors_of : Pattern → List ℕ
neighbors_of p = tab (λ k. column_of p (idx (uppers_of p) k)) (faces_of p)

-- ---- entries found by their row and column

-- whether row i has an entry in column j
unfoldable pub has_entry : Pattern → ℕ → ℕ → Bool
has_entry p i j = some (λ e. eqb (row_of p e) i && eqb (column_of p e) j) (entries p)

-- where it stands, if the columns rise within the row: after the row's columns below j
unfoldable pub stands_at : Pattern → ℕ → ℕ → ℕ
stands_at p i j =
    let start = idx p.offsets i in
    let end = idx p.offsets (i + 1) in
    start + how_many (λ k. ltb (column_of p (start + k)) j) (end - start)

-- where the mirror of entry e stands
abbrev pub mirror_of : Pattern → ℕ → ℕ
mirror_of p e = stands_at p (column_of p e) (row_of p e)

-- question 10, of the pattern: whether each entry has its mirror
unfoldable pub mirrored_of : Pattern → Bool
mirrored_of p = each (λ e. has_entry p (column_of p e) (row_of p e)) (entries p)

-- `transpose_entries`: the mirror of each face
unfoldable pub lowers_of : Pattern → List ℕ
lowers_of p = tab (λ k. mirror_of p (idx (uppers_of p) k)) (faces_of p)

-- question 11, row by row: whether each has its diagonal entry
unfoldable pub diagonals_asked : ℕ → Pattern → Outcome Unit
diagonals_asked level p = ask_each p.rows (λ i. ask (has_entry p i i) (missing_diagonal level i) passed) passed

-- `diagonal_entries`: the diagonal entry of each row
unfoldable pub diagonals_of : Pattern → List ℕ
diagonals_of p = tab (λ i. stands_at p i i) p.rows

-- ---- coupled rows

-- whether row i has an entry off the diagonal
unfoldable pub coupled_of : Pattern → ℕ → Bool
coupled_of p i = some (λ e. eqb (row_of p e) i && not (eqb (column_of p e) i)) (entries p)

-- `coupled_rows`: how many rows are coupled
unfoldable pub coupled_count_of : Pattern → ℕ
coupled_count_of p = how_many (coupled_of p) p.rows

-- these rows, rising
unfoldable pub coupled_rows_of : Pattern → List ℕ
coupled_rows_of p = those (coupled_of p) p.rows
