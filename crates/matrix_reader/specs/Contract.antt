-- What the functions that read a file ensure. Definitions only.
use Rattle.matrix_reader.specs.declared.head.FileSizes.{FileSizes}
use Rattle.std.specs.Prelude.{◌≡◌, Bool, List, ℕ, ◌≤◌, length, drop, Result, Ok, Err}
use Rattle.refusal.specs.Outcome.{Outcome, accepted, refused}
use Rattle.refusal.specs.declared.Refusal.{Refusal}
use Rattle.matrix_market.specs.Lines.{first_line, data_of}
use Rattle.matrix_reader.specs.declared.head.Head.{Head}
use Rattle.matrix_reader.specs.File.{kind_of, Stated, sizes_in, lines_after, Slices, file_of}

-- ---- header and size line

-- what reading the header answers
abbrev pub kind_answer : Outcome Bool → Result Bool Refusal
kind_answer (accepted symmetric) = Ok symmetric
kind_answer (refused q) = Err q

-- what reading the size line answers
abbrev pub sizes_answer : Outcome Stated → Result FileSizes Refusal
sizes_answer (accepted s) = Ok (record { rows = s.rows; entries = s.entries })
sizes_answer (refused q) = Err q

-- the sizes of a head
abbrev pub stated_by : Head → Stated
stated_by h = record { rows = h.rows; entries = h.entries }

-- The size line of text t, which states h, and the lines behind it.
pub record SizesFound (t : List ℕ) (h : Head) : Type 0 where
  pub sizes : sizes_in (data_of t) ≡ accepted (stated_by h)
  pub rest : data_of (drop h.next t) ≡ lines_after (data_of t)
  pub within : h.next ≤ length t
  pub rows : h.rows ≤ 65536
  pub entries : h.entries ≤ 1048576

-- The size line of text t, of that kind, is read.
pub record SizeLineIs (t : List ℕ) (symmetric : Bool) (r : Result Head Refusal) : Type 0 where
  pub kind : (h : Head) → r ≡ Ok h → h.symmetric ≡ symmetric
  pub yes : (h : Head) → r ≡ Ok h → SizesFound t h
  pub no : (q : Refusal) → r ≡ Err q → sizes_in (data_of t) ≡ refused q

-- Header and size line of text t are read.
pub record HeadIs (t : List ℕ) (r : Result Head Refusal) : Type 0 where
  pub kind : (h : Head) → r ≡ Ok h → kind_of (first_line t) ≡ accepted h.symmetric
  pub yes : (h : Head) → r ≡ Ok h → SizesFound t h
  pub no : (q : Refusal) → r ≡ Err q → (l : Slices) → file_of t l ≡ refused q
