-- What is asked of an MX record before it is written, and what writing it answers. Definitions only.
use Rattle.refusal.specs.declared.Refusal.{Refusal}
use Rattle.std.specs.Prelude.{Option, Some, None, Bool, true, false, not, ◌&&◌, ◌||◌, List, [], ◌++◌, ℕ, ◌+◌, ◌-◌, eqb, leb, length, Float, Result, Ok, Err}
use Rattle.std.specs.Float.Ieee.{eq}
use Rattle.refusal.specs.Outcome.{Outcome, accepted, refused, passed, ask, ◌>>=◌, ◌>>◌, ask_each}
use Rattle.refusal.specs.Refusal.{store_too_small, bad_number, unequal_mirrors}
use Rattle.store.specs.Region.{idx, at}
use Rattle.store.specs.Vector.{filled}
use Rattle.pattern.specs.Pattern.{some}
use Rattle.csr.specs.Questions.{matrix_asked}
use Rattle.decimal.specs.Decimal.{write_of, magnitude_of}
use Rattle.record_format.specs.declared.marks.Mark.{Mark}
use Rattle.record_format.specs.Bytes.{u32_at}
use Rattle.record_format.specs.Format.{bad_record, Matrix, marked, matrix_length, matrix_at}
use Rattle.matrix_writer.specs.Text.{row_length, file_text}

-- ---- questions

-- whether bytes are an MX record: its mark, and as many bytes as its rows and entries ask for
unfoldable pub record_ok : List ℕ → Bool
record_ok b = marked Mark.Matrix b && eqb (length b) (matrix_length (u32_at b 2) (u32_at b 6))

-- whether a number was found
abbrev pub is_found : Option (ℕ × Bool × ℕ) → Bool
is_found (Some (m, negative, power)) = true
is_found None = false

-- whether some number of at most 15 digits and with a power from -22 to 22 gives a value
abbrev pub writable : Float → Bool
writable v = is_found (write_of (magnitude_of v))

-- whether entry d stands in column r and equals entry e as a number
unfoldable pub mirrors : Matrix → ℕ → ℕ → ℕ → Bool
mirrors m r e d = eqb (idx m.columns d) r && eq (at m.values d) (at m.values e)

-- whether row c has the mirror of entry e, which stands in row r
unfoldable pub mirror_in : Matrix → ℕ → ℕ → ℕ → Bool
mirror_in m r e c = some (λ k. mirrors m r e (idx m.offsets c + k)) (row_length m c)

-- what is asked of entry e of row r: its value can be written, and in a symmetric file the row of its column has its mirror
unfoldable pub entry_asked : Bool → Matrix → ℕ → ℕ → Outcome Unit
entry_asked symmetric m r e = do
  ask (writable (at m.values e)) bad_number
  ask (not symmetric || mirror_in m r e (idx m.columns e)) unequal_mirrors
  passed

-- of the entries of row r
unfoldable pub row_asked : Bool → Matrix → ℕ → Outcome Unit
row_asked symmetric m r = ask_each (row_length m r) (λ k. entry_asked symmetric m r (idx m.offsets r + k)) passed

-- of all entries, by row and then by column: the first that is refused decides
unfoldable pub entries_asked : Bool → Matrix → Outcome Unit
entries_asked symmetric m = ask_each m.rows (row_asked symmetric m) passed

-- of a record: 32 of mark and length, 1 to 3, and then 39 and 40 entry by entry
unfoldable pub record_asked : Bool → List ℕ → Outcome Unit
record_asked symmetric b = do
  ask (record_ok b) bad_record
  _ ← matrix_asked (matrix_at b).rows (matrix_at b).offsets (matrix_at b).columns (matrix_at b).values
  entries_asked symmetric (matrix_at b)

-- ---- the answer

-- the text of a record, where it fits into `size` bytes
unfoldable pub write_file : Bool → ℕ → List ℕ → Outcome (List ℕ)
write_file symmetric size b = do
  _ ← record_asked symmetric b
  ask (leb (length (file_text symmetric (matrix_at b))) size) store_too_small
  accepted (file_text symmetric (matrix_at b))

-- how many bytes were written, or the refusal
abbrev pub file_answer : Outcome (List ℕ) → Result ℕ Refusal
file_answer (accepted text) = Ok (length text)
file_answer (refused q) = Err q

-- what was written, and nothing where it was refused
abbrev pub written_text : Outcome (List ℕ) → List ℕ
written_text (accepted text) = text
written_text (refused q) = []

-- a text, and zeros behind it up to `size` bytes
abbrev pub zeros_behind : ℕ → List ℕ → List ℕ
zeros_behind size text = text ++ filled (size - length text) 0
