-- A Matrix Market file as text: its header, its size line, and a line for each entry that is written. Definitions only.
use Rattle.std.specs.Prelude.{Bool, true, false, not, cond, ◌||◌, List, [], ◌∷◌, ◌++◌, ℕ, zero, suc, ◌+◌, ◌-◌, leb, length, Float}
use Rattle.store.specs.Region.{idx, at}
use Rattle.decimal_text.specs.Figures.{figures, value_text}
use Rattle.record_format.specs.Bytes.{flat}
use Rattle.record_format.specs.Format.{Matrix}

-- ---- the entries that are written, by row and then by column

-- the lists f 0, .., f (n - 1), one after the other
unfoldable pub joined : {A : Type 0} → (ℕ → List A) → ℕ → List A
joined f zero = []
joined f (suc n) = joined f n ++ f n

-- an entry: its row and column, from 0, and its value
pub record Triplet : Type 0 where
  pub row : ℕ
  pub column : ℕ
  pub value : Float

-- entry e, which stands in row r
abbrev pub triplet_at : Matrix → ℕ → ℕ → Triplet
triplet_at m r e = record { row = r; column = idx m.columns e; value = at m.values e }

-- how many entries row r has
abbrev pub row_length : Matrix → ℕ → ℕ
row_length m r = idx m.offsets (r + 1) - idx m.offsets r

-- whether an entry is written: in a symmetric file only on or below the diagonal
abbrev pub is_written : Bool → ℕ → ℕ → Bool
is_written symmetric row column = not symmetric || leb column row

-- entry e of row r, where it is written
unfoldable pub written_at : Bool → Matrix → ℕ → ℕ → List Triplet
written_at symmetric m r e = cond (is_written symmetric r (idx m.columns e)) (triplet_at m r e ∷ []) []

-- the entries of row r that are written
unfoldable pub row_triplets : Bool → Matrix → ℕ → List Triplet
row_triplets symmetric m r = joined (λ k. written_at symmetric m r (idx m.offsets r + k)) (row_length m r)

-- the entries of a matrix that are written
unfoldable pub triplets : Bool → Matrix → List Triplet
triplets symmetric m = joined (row_triplets symmetric m) m.rows

-- ---- lines

-- %%MatrixMarket matrix coordinate real, and a space
abbrev pub header_text : List ℕ
header_text =
    37 ∷ 37 ∷ 77 ∷ 97 ∷ 116 ∷ 114 ∷ 105 ∷ 120 ∷ 77 ∷ 97 ∷ 114 ∷ 107 ∷ 101 ∷ 116 ∷ 32 ∷ 109 ∷ 97 ∷ 116 ∷ 114 ∷ 105 ∷ 120 ∷ 32
    ∷ 99 ∷ 111 ∷ 111 ∷ 114 ∷ 100 ∷ 105 ∷ 110 ∷ 97 ∷ 116 ∷ 101 ∷ 32 ∷ 114 ∷ 101 ∷ 97 ∷ 108 ∷ 32 ∷ []

-- symmetric or general, and a line feed
abbrev pub kind_text : Bool → List ℕ
kind_text true = 115 ∷ 121 ∷ 109 ∷ 109 ∷ 101 ∷ 116 ∷ 114 ∷ 105 ∷ 99 ∷ 10 ∷ []
kind_text false = 103 ∷ 101 ∷ 110 ∷ 101 ∷ 114 ∷ 97 ∷ 108 ∷ 10 ∷ []

-- a number and a space
abbrev pub spaced : ℕ → List ℕ
spaced n = figures n ++ (32 ∷ [])

-- the size line: rows, columns, which are as many, and entries
abbrev pub size_line : ℕ → ℕ → List ℕ
size_line rows count = spaced rows ++ spaced rows ++ figures count ++ (10 ∷ [])

-- the line of an entry: its row and column, from 1, and its value
abbrev pub entry_line : Triplet → List ℕ
entry_line t = spaced (t.row + 1) ++ spaced (t.column + 1) ++ value_text t.value ++ (10 ∷ [])

-- the text of a matrix: the header, the size line with the count of entries that are written, and their lines
abbrev pub file_text : Bool → Matrix → List ℕ
file_text symmetric m =
    header_text ++ kind_text symmetric ++ size_line m.rows (length (triplets symmetric m)) ++ flat entry_line (triplets symmetric m)
