-- A whole Matrix Market text: its header, its size line and its entries, in the order in which document 02 asks. Definitions only.
use Rattle.refusal.specs.declared.Refusal.{Refusal}
use Rattle.std.specs.Prelude.{Result, Ok, Err, ◌≡◌, Bool, true, false, cond, ◌&&◌, List, [], ◌∷◌, ◌++◌, ℕ, ◌+◌, ◌*◌, eqb, leb, ltb, length, Float}
use Rattle.refusal.specs.Outcome.{Outcome, accepted, refused, ask, ◌>>=◌, ◌>>◌}
use Rattle.refusal.specs.Refusal.{too_large, store_too_small, bad_matrix_file, bad_number}
use Rattle.decimal_text.specs.Field.{is_number, number_of}
use Rattle.matrix_market.specs.declared.placed.PlacedError.{PlacedError}
use Rattle.matrix_market.specs.Lines.{fields_of, first_line, data_of}
use Rattle.matrix_market.specs.Placed.{placed_in}
use Rattle.coordinate.specs.Coordinate.{Entry, entries_there, row_starts, placed_columns, placed_values, expanded}
use Rattle.record_format.specs.Format.{Matrix, matrix_length, matrix_bytes}
use Rattle.record_format.specs.Answers.{leaves_of}

-- ---- the header

-- the bytes of "%%MatrixMarket matrix coordinate real " and of the kind
abbrev pub header_of : Bool → List ℕ
header_of true =
    37 ∷ 37 ∷ 77 ∷ 97 ∷ 116 ∷ 114 ∷ 105 ∷ 120 ∷ 77 ∷ 97 ∷ 114 ∷ 107 ∷ 101 ∷ 116 ∷ 32 ∷ 109 ∷ 97 ∷ 116 ∷ 114 ∷ 105 ∷ 120 ∷ 32 ∷ 99 ∷ 111 ∷ 111 ∷ 114 ∷ 100 ∷ 105 ∷ 110 ∷ 97 ∷ 116 ∷ 101 ∷ 32 ∷ 114 ∷ 101 ∷ 97 ∷ 108 ∷ 32 ∷
    115 ∷ 121 ∷ 109 ∷ 109 ∷ 101 ∷ 116 ∷ 114 ∷ 105 ∷ 99 ∷ []
header_of false =
    37 ∷ 37 ∷ 77 ∷ 97 ∷ 116 ∷ 114 ∷ 105 ∷ 120 ∷ 77 ∷ 97 ∷ 114 ∷ 107 ∷ 101 ∷ 116 ∷ 32 ∷ 109 ∷ 97 ∷ 116 ∷ 114 ∷ 105 ∷ 120 ∷ 32 ∷ 99 ∷ 111 ∷ 111 ∷ 114 ∷ 100 ∷ 105 ∷ 110 ∷ 97 ∷ 116 ∷ 101 ∷ 32 ∷ 114 ∷ 101 ∷ 97 ∷ 108 ∷ 32 ∷
    103 ∷ 101 ∷ 110 ∷ 101 ∷ 114 ∷ 97 ∷ 108 ∷ []

-- whether two lists of bytes are the same
unfoldable pub same_bytes : List ℕ → List ℕ → Bool
same_bytes [] [] = true
same_bytes [] (y ∷ m) = false
same_bytes (x ∷ l) [] = false
same_bytes (x ∷ l) (y ∷ m) = eqb x y && same_bytes l m

-- whether a file with this first line is symmetric, or general
abbrev pub kind_of : List ℕ → Outcome Bool
kind_of line = cond (same_bytes line (header_of true)) (accepted true) (ask (same_bytes line (header_of false)) bad_matrix_file (accepted false))

-- ---- the size line

-- The rows, which are as many as the columns, and the entries that a file states.
pub record Stated : Type 0 where
  pub rows : ℕ
  pub entries : ℕ

-- three fields: numbers of any length, the matrix square, and within the limits
abbrev pub three_sizes : List ℕ → List ℕ → List ℕ → Outcome Stated
three_sizes a b c = do
  ask (is_number a && (is_number b && is_number c)) bad_matrix_file
  ask (eqb (number_of a) (number_of b)) bad_matrix_file
  ask (leb (number_of a) 65536 && leb (number_of c) 1048576) too_large
  accepted (record { rows = number_of a; entries = number_of c })

-- the fields of the size line, which are three
abbrev pub sizes_from : List (List ℕ) → Outcome Stated
sizes_from [] = refused bad_matrix_file
sizes_from (a ∷ []) = refused bad_matrix_file
sizes_from (a ∷ b ∷ []) = refused bad_matrix_file
sizes_from (a ∷ b ∷ c ∷ []) = three_sizes a b c
sizes_from (a ∷ b ∷ c ∷ d ∷ rest) = refused bad_matrix_file

-- the sizes that the first of the lines that count states
abbrev pub sizes_in : List (List ℕ) → Outcome Stated
sizes_in [] = refused bad_matrix_file
sizes_in (line ∷ rest) = sizes_from (fields_of line)

-- the lines behind the first
abbrev pub lines_after : List (List ℕ) → List (List ℕ)
lines_after [] = []
lines_after (line ∷ rest) = rest

-- ---- entries

-- whether no entry stands at (r, c)
abbrev pub is_free : ℕ → ℕ → List Entry → Bool
is_free r c es = eqb (length (entries_there r c es)) 0

-- one entry behind others: 38 for its form and its place, also where another stands there, then 39 for its value
abbrev pub entry_after : List Entry → Result (ℕ × ℕ × Float) PlacedError → Outcome Entry
entry_after es (Err PlacedError.Malformed) = refused bad_matrix_file
entry_after es (Err (PlacedError.BadValue r c)) = ask (is_free r c es) bad_matrix_file (refused bad_number)
entry_after es (Ok (r, c, v)) = ask (is_free r c es) bad_matrix_file (accepted (record { row = r; column = c; value = v }))

-- the entries of lines, one after the other, behind those before them: the first that offends decides; a surplus one is 38, and so is a missing one, after the last
unfoldable pub entries_from : Bool → Stated → List Entry → List (List ℕ) → Outcome (List Entry)
entries_from symmetric s es [] = ask (eqb (length es) s.entries) bad_matrix_file (accepted es)
entries_from symmetric s es (line ∷ rest) = do
  ask (ltb (length es) s.entries) bad_matrix_file
  e ← entry_after es (placed_in symmetric s.rows line)
  entries_from symmetric s (es ++ (e ∷ [])) rest

-- ---- the matrix

-- a matrix of n rows from its entries, mirrors included
abbrev pub placed_matrix : ℕ → List Entry → Matrix
placed_matrix n es = record {
  rows = n;
  entries = length es;
  offsets = row_starts n es;
  columns = placed_columns n es;
  values = placed_values n es;
}

-- a matrix, if its entries are within the limit and the output has room for its record
abbrev pub matrix_from : ℕ → Matrix → Outcome Matrix
matrix_from out m = do
  ask (leb m.entries 1048576) too_large
  ask (leb (matrix_length m.rows m.entries) out) store_too_small
  accepted m

-- ---- the file

-- How many elements the slices have that are lent: for rows, columns and values of entries, for where rows start, for the order of the entries and
-- links between them, and for the output.
pub record Slices : Type 0 where
  pub rows : ℕ
  pub columns : ℕ
  pub values : ℕ
  pub starts : ℕ
  pub order : ℕ
  pub links : ℕ
  pub out : ℕ

-- the lengths of slices
abbrev pub slices_of : List ℕ → List ℕ → List Float → List ℕ → List ℕ → List ℕ → List ℕ → Slices
slices_of rows columns values starts order links out = record {
  rows = length rows;
  columns = length columns;
  values = length values;
  starts = length starts;
  order = length order;
  links = length links;
  out = length out;
}

-- how many entries a file of n may have with their mirrors
abbrev pub most_of : Bool → ℕ → ℕ
most_of symmetric n = cond symmetric (2 * n) n

-- whether the slices for the entries are long enough for every file of these sizes: without them a repeated entry is not found
abbrev pub has_room : Slices → Bool → Stated → Bool
has_room l symmetric s =
    leb (most_of symmetric s.entries) l.rows
    && (leb (most_of symmetric s.entries) l.columns
    && (leb (most_of symmetric s.entries) l.values
    && (leb (s.rows + 1) l.starts
    && (leb (most_of symmetric s.entries) l.order && leb (most_of symmetric s.entries) l.links))))

-- what comes behind header and size line: 9, then the entries, then the matrix
abbrev pub after_sizes : List ℕ → Slices → Bool → Stated → Outcome Matrix
after_sizes text l symmetric s = do
  ask (has_room l symmetric s) store_too_small
  es ← entries_from symmetric s [] (lines_after (data_of text))
  matrix_from l.out (placed_matrix s.rows (expanded symmetric es))

-- what comes behind the header, which begins with % and is none of the lines that count
abbrev pub after_kind : List ℕ → Slices → Bool → Outcome Matrix
after_kind text l symmetric = do
  s ← sizes_in (data_of text)
  after_sizes text l symmetric s

-- the matrix of a text: one that meets each of these questions is not refused, since what `read_matrix_file` ensures is an equation with this outcome
abbrev pub file_of : List ℕ → Slices → Outcome Matrix
file_of text l = do
  symmetric ← kind_of (first_line text)
  after_kind text l symmetric

-- ---- what reading answers, and what it leaves of the output

-- how many bytes the record has, or the refusal
abbrev pub converted_answer : Outcome Matrix → Result ℕ Refusal
converted_answer (accepted m) = Ok (length (matrix_bytes m))
converted_answer (refused q) = Err q

-- A text is read: the answer, and an output of the record over the start of B, or of B where the text is refused.
pub record ConvertedIs (o : Outcome Matrix) (B B' : List ℕ) (r : Result ℕ Refusal) : Type 0 where
  pub answer : r ≡ converted_answer o
  pub bytes : B' ≡ leaves_of matrix_bytes o B
