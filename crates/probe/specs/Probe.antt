-- How places and answers cross the boundary: as numbers, and as words of a lent slice. Definitions only.
use Rattle.refusal.specs.declared.Refusal.{Refusal}
use Rattle.std.specs.Prelude.{List, ◌≡◌, ℕ, Float, set, Result, Ok, Err}
use Rattle.matrix.specs.declared.matrix.SymmetricMatrix.{SymmetricMatrix}
use Rattle.coefficients.specs.declared.values.entries.Entries.{Entries}
use Rattle.cholesky.specs.declared.Terminal.{Terminal}
pub use Rattle.meshprobe.specs.Telling.{flag, flag_of, written_of, answer_of, Told}

-- the places of a kernel, as numbers
abbrev pub symmetric_of : ℕ → ℕ → ℕ → ℕ → ℕ → ℕ → SymmetricMatrix
symmetric_of rows diagonal inverse offsets neighbors coefficients =
    record {
      rows = rows;
      diagonal = diagonal;
      inverse = inverse;
      offsets = offsets;
      neighbors = neighbors;
      coefficients = coefficients;
    }

-- the places of an image's entries, as numbers
abbrev pub entries_of : ℕ → ℕ → ℕ → ℕ → Entries
entries_of entries diagonals faces values =
    record { entries = entries; diagonals = diagonals; faces = faces; values = values }

-- the places of a terminal level, as numbers
abbrev pub system_of : ℕ → ℕ → ℕ → ℕ → ℕ → ℕ → ℕ → ℕ → Terminal
system_of rows entries offsets columns values size coupled factor =
    record {
      rows = rows;
      entries = entries;
      offsets = offsets;
      columns = columns;
      values = values;
      size = size;
      coupled = coupled;
      factor = factor;
    }

-- zero, or the number of the question that refused the factor
abbrev pub scale_answer : Result Float Refusal → ℕ
scale_answer (Ok x) = 0
scale_answer (Err q) = q.number

-- the factor stands at the front of `out`; a refusal writes nothing
abbrev pub scale_written : Result Float Refusal → List Float → List Float
scale_written (Ok x) out = set out 0 x
scale_written (Err q) out = out

-- a factor or its refusal
pub record Scaled (s : Result Float Refusal) (P Q : List Float) (r : ℕ) : Type 0 where
  pub is : r ≡ scale_answer s
  pub out : Q ≡ scale_written s P

-- zero, or the number of the question that refused the correction
abbrev pub count_answer : Result ℕ Refusal → ℕ
count_answer (Ok n) = 0
count_answer (Err q) = q.number

-- how many pairs are stored, at the front of `count`; a refusal writes nothing
abbrev pub count_written : Result ℕ Refusal → List ℕ → List ℕ
count_written (Ok n) count = set count 0 n
count_written (Err q) count = count

-- a correction's count or its refusal
pub record Counted (s : Result ℕ Refusal) (P Q : List ℕ) (r : ℕ) : Type 0 where
  pub is : r ≡ count_answer s
  pub count : Q ≡ count_written s P
