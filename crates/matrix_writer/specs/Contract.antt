-- What the functions of the writer require and ensure. Definitions only.
use Rattle.refusal.specs.declared.Refusal.{Refusal}
use Rattle.std.specs.Prelude.{◌≡◌, Bool, List, ℕ, ◌+◌, ◌*◌, ◌≤◌, ◌<◌, length, Result}
use Rattle.refusal.specs.Outcome.{Outcome, passed}
use Rattle.store.specs.Region.{idx}
use Rattle.store.specs.Vector.{filled}
use Rattle.record_format.specs.Bytes.{words_at, floats_at}
use Rattle.record_format.specs.Format.{Matrix}
use Rattle.matrix_writer.specs.declared.arrays.RowRange.{RowRange}
use Rattle.matrix_writer.specs.Writing.{record_asked, file_answer, written_text, zeros_behind}

-- the matrix in the bytes of a record with so many rows and entries
abbrev pub sized_matrix : List ℕ → ℕ → ℕ → Matrix
sized_matrix b rows entries = record {
  rows = rows;
  entries = entries;
  offsets = words_at b 10 (rows + 1);
  columns = words_at b (14 + 4 * rows) entries;
  values = floats_at b (14 + 4 * rows + 4 * entries) entries;
}

-- There are few enough rows and entries: question 1.
pub record SizesFit (rows entries : ℕ) : Type 0 where
  pub few : rows ≤ 65536
  pub short : entries ≤ 1048576

-- r is the word at index k of a list.
pub record WordOf (w : List ℕ) (k r : ℕ) : Type 0 where
  pub is : r ≡ idx w k
  pub small : r < 4294967296

-- The entries from `first` up to `last` are among all.
pub record Span (entries first last : ℕ) : Type 0 where
  pub order : first ≤ last
  pub within : last ≤ entries

-- The offsets start at 0, never fall and stay among the entries: question 2.
pub record RowsIn (m : Matrix) : Type 0 where
  pub first : idx m.offsets 0 ≡ 0
  pub starts : (r : ℕ) → r < m.rows → idx m.offsets r ≤ idx m.offsets (r + 1)
  pub ends : (r : ℕ) → r < m.rows → idx m.offsets (r + 1) ≤ m.entries

-- s is where row r starts and ends.
pub record RangeIs (m : Matrix) (r : ℕ) (s : RowRange) : Type 0 where
  pub first_is : s.first ≡ idx m.offsets r
  pub last_is : s.last ≡ idx m.offsets (r + 1)
  pub order : s.first ≤ s.last
  pub within : s.last ≤ m.entries

-- Entry e stands in row r.
pub record StandsIn (m : Matrix) (r e : ℕ) : Type 0 where
  pub row : r < m.rows
  pub from : idx m.offsets r ≤ e
  pub to : e < idx m.offsets (r + 1)

-- The columns rise from `first` up to `last`.
pub record Rises (columns : List ℕ) (first last : ℕ) : Type 0 where
  pub step : (e : ℕ) → first ≤ e → e + 1 < last → idx columns e < idx columns (e + 1)

-- The arrays pass questions 2 and 3.
pub record Sound (m : Matrix) : Type 0 where
  pub rows_in : RowsIn m
  pub inside : (r e : ℕ) → StandsIn m r e → idx m.columns e < m.rows
  pub rises : (r : ℕ) → r < m.rows → Rises m.columns (idx m.offsets r) (idx m.offsets (r + 1))

-- r is the first entry from `first` up to `last` whose column is not below c; `last` where there is none.
pub record LowerBound (columns : List ℕ) (first last c r : ℕ) : Type 0 where
  pub from : first ≤ r
  pub to : r ≤ last
  pub before : (e : ℕ) → first ≤ e → e < r → idx columns e < c
  pub after : (e : ℕ) → r ≤ e → e < last → c ≤ idx columns e

-- A record passed its questions, and the output is zero.
pub record Ready (symmetric : Bool) (b F : List ℕ) : Type 0 where
  pub asked : record_asked symmetric b ≡ passed
  pub cleared : F ≡ filled (length F) 0

-- A file was written: the answer, and the text with zeros behind it in the slice that was lent.
pub record WriteDone (o : Outcome (List ℕ)) (F G : List ℕ) (r : Result ℕ Refusal) : Type 0 where
  pub answer : r ≡ file_answer o
  pub out : G ≡ zeros_behind (length F) (written_text o)
