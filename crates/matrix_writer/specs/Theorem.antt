-- What is proved of a written text (proofs/Grammar.antt, proofs/Entries.antt). Definitions only.
use Rattle.std.specs.Prelude.{Option, Some, None, Result, Ok, ◌≡◌, Bool, true, false, ◌&&◌, List, [], ◌∷◌, ◌++◌, map, ℕ, ◌+◌, ◌<◌, ltb, Float, length}
use Rattle.std.specs.Float.{nan}
use Rattle.std.specs.Float.Ieee.{eq}
use Rattle.decimal.specs.Decimal.{value_of, signed_of, is_minus, magnitude_of, write_of}
use Rattle.decimal_text.specs.Figures.{figures, value_text}
use Rattle.matrix_market.specs.declared.placed.PlacedError.{PlacedError}
use Rattle.matrix_market.specs.Lines.{fields_of, lines_of, data_of}
use Rattle.matrix_market.specs.Placed.{placed_in}
use Rattle.record_format.specs.Format.{Matrix}
use Rattle.matrix_writer.specs.Text.{Triplet, header_text, spaced, triplets}
use Rattle.matrix_writer.specs.Writing.{writable}

-- the lines of a file without their line feeds: the header,
abbrev pub header_line : Bool → List ℕ
header_line true = header_text ++ (115 ∷ 121 ∷ 109 ∷ 109 ∷ 101 ∷ 116 ∷ 114 ∷ 105 ∷ 99 ∷ [])
header_line false = header_text ++ (103 ∷ 101 ∷ 110 ∷ 101 ∷ 114 ∷ 97 ∷ 108 ∷ [])

-- the sizes,
abbrev pub size_text : ℕ → ℕ → List ℕ
size_text rows count = spaced rows ++ spaced rows ++ figures count

-- and an entry
abbrev pub entry_text : Triplet → List ℕ
entry_text t = spaced (t.row + 1) ++ spaced (t.column + 1) ++ value_text t.value

-- the value of what was found for a value; a NaN where nothing was
abbrev pub found_value : Bool → Option (ℕ × Bool × ℕ) → Float
found_value minus (Some (m, negative, power)) = signed_of minus (value_of m negative power)
found_value minus None = nan

-- the value that the text of a value is read as: itself, but for +0 in the place of -0
abbrev pub read_back : Float → Float
read_back v = found_value (is_minus v) (write_of (magnitude_of v))

-- An entry that a file of so many rows may have: its places are below the rows, in a symmetric file not above the diagonal, and its value can be written.
pub record Fitting (symmetric : Bool) (rows : ℕ) (t : Triplet) : Type 0 where
  pub row_in : t.row < rows
  pub column_in : t.column < rows
  pub below : (symmetric && ltb t.row t.column) ≡ false
  pub value_in : writable t.value ≡ true

-- P holds of each entry of a list
unfoldable pub EachIn : (Triplet → Type 0) → List Triplet → Type 0
EachIn P [] = Unit
EachIn P (t ∷ l) = P t × EachIn P l

-- an entry as it is read
abbrev pub back_of : Triplet → Result (ℕ × ℕ × Float) PlacedError
back_of t = Ok (t.row, t.column, read_back t.value)

-- A text that was written is in the grammar: its lines are the header, the sizes and the entries, each with its line feed; those that count are the
-- sizes and the entries; the sizes have their three fields; and each entry is read as it was, its value as one that equals it.
pub record InGrammar (symmetric : Bool) (m : Matrix) (text : List ℕ) : Type 0 where
  pub lines : lines_of text ≡ header_line symmetric ∷ size_text m.rows (length (triplets symmetric m)) ∷ map entry_text (triplets symmetric m) ++ ([] ∷ [])
  pub counted : data_of text ≡ size_text m.rows (length (triplets symmetric m)) ∷ map entry_text (triplets symmetric m)
  pub sizes : fields_of (size_text m.rows (length (triplets symmetric m))) ≡ figures m.rows ∷ figures m.rows ∷ figures (length (triplets symmetric m)) ∷ []
  pub entries : map (placed_in symmetric m.rows) (map entry_text (triplets symmetric m)) ≡ map back_of (triplets symmetric m)
  pub equal : EachIn (λ t. eq (read_back t.value) t.value ≡ true) (triplets symmetric m)
