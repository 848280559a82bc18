-- What the steps of a whole file ask and ensure. Definitions only.
use Rattle.std.specs.Prelude.{◌≡◌, not, List, [], ℕ, ◌+◌, ◌≤◌, ◌<◌, length, drop, Float, Result, Ok, Err}
use Rattle.refusal.specs.Outcome.{Outcome, refused, ask, ◌>>=◌}
use Rattle.refusal.specs.Refusal.{bad_matrix_file, bad_number}
use Rattle.store.specs.Region.{idx}
use Rattle.matrix_market.specs.Lines.{data_of}
use Rattle.coordinate.specs.Coordinate.{Entry, repeated, expanded}
use Rattle.record_format.specs.Format.{Matrix}
use Rattle.matrix_reader.specs.declared.head.Head.{Head}
use Rattle.matrix_reader.specs.declared.entries.LinesError.{LinesError}
use Rattle.matrix_reader.specs.File.{entries_from, most_of}
use Rattle.matrix_reader.specs.Contract.{stated_by}
use Rattle.matrix_reader.specs.Steps.{entries_to}

-- The sizes of a head are within the limits.
pub record HeadLimits (h : Head) : Type 0 where
  pub few : h.rows ≤ 65536
  pub many : h.entries ≤ 1048576

-- Slices have room for the entries of text t, whose head is h, and their mirrors.
pub record GatherOk (t : List ℕ) (h : Head) (R C : List ℕ) (F : List Float) : Type 0 where
  pub limits : HeadLimits h
  pub next : h.next ≤ length t
  pub rows : most_of h.symmetric h.entries ≤ length R
  pub columns : most_of h.symmetric h.entries ≤ length C
  pub values : most_of h.symmetric h.entries ≤ length F

-- The first m of at most so many entries have places below n.
pub record EntriesPlaced (n most m : ℕ) (R C : List ℕ) : Type 0 where
  pub few : m ≤ most
  pub row : (k : ℕ) → k < m → idx R k < n
  pub column : (k : ℕ) → k < m → idx C k < n

-- what is read of the entries of text t, whose head is h
abbrev pub entries_of_text : List ℕ → Head → Outcome (List Entry)
entries_of_text t h = entries_from h.symmetric (stated_by h) [] (data_of (drop h.next t))

-- Entry m + 1 of a text has a bad value, the others before it none.
pub record BadGathered (t : List ℕ) (h : Head) (R C : List ℕ) (F : List Float) (m : ℕ) : Type 0 where
  pub placed : EntriesPlaced h.rows (most_of h.symmetric h.entries) (m + 1) R C
  pub is : entries_of_text t h ≡ ask (not (repeated (entries_to (m + 1) R C F))) bad_matrix_file (refused bad_number)

-- The entries of a text and their mirrors are m.
pub record AllGathered (t : List ℕ) (h : Head) (R C : List ℕ) (F : List Float) (m : ℕ) : Type 0 where
  pub placed : EntriesPlaced h.rows (most_of h.symmetric h.entries) m R C
  pub is : (rest : List Entry → Outcome Matrix)
      → ◌>>=◌ (entries_of_text t h) (λ es. rest (expanded h.symmetric es)) ≡ ask (not (repeated (entries_to m R C F))) bad_matrix_file (rest (entries_to m R C F))

-- The lines of a text were read, and what they have stands in the slices, mirrors included.
pub record GatherIs (t : List ℕ) (h : Head) (R C : List ℕ) (F : List Float) (r : Result ℕ LinesError) : Type 0 where
  pub malformed : r ≡ Err LinesError.Malformed → entries_of_text t h ≡ refused bad_matrix_file
  pub bad : (m : ℕ) → r ≡ Err (LinesError.BadValue m) → BadGathered t h R C F m
  pub all : (m : ℕ) → r ≡ Ok m → AllGathered t h R C F m

-- Entries whose places are below n, and room for their order.
pub record SortRoom (n total : ℕ) (R C S O N : List ℕ) : Type 0 where
  pub few : n ≤ 65536
  pub many : total ≤ 2097152
  pub rows : total ≤ length R
  pub columns : total ≤ length C
  pub row : (k : ℕ) → k < total → idx R k < n
  pub column : (k : ℕ) → k < total → idx C k < n
  pub starts : n + 1 ≤ length S
  pub order : total ≤ length O
  pub links : total ≤ length N
