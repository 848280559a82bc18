-- What the functions require and ensure: the pattern and what is written, as regions of one store of words.
-- Definitions only.
use Rattle.refusal.specs.declared.Refusal.{Refusal}
use Rattle.std.specs.Prelude.{◌≡◌, Bool, true, List, ℕ, ◌+◌, ◌≤◌, length, Result, Ok}
use Rattle.refusal.specs.Outcome.{verdict_of}
use Rattle.store.specs.Region.{part, Wrote, Kept}
use Rattle.pattern.specs.Pattern.{Pattern, Valid, Rising, Diagonal}
use Rattle.faces.specs.declared.faces.Faces.{Faces}
use Rattle.faces.specs.Faces.{faces_of, uppers_of, face_offsets_of, neighbors_of, mirrored_of, lowers_of}
use Rattle.faces.specs.Faces.{diagonals_asked, diagonals_of, coupled_count_of, coupled_rows_of}

-- the pattern in the store
abbrev pub pattern_at : List ℕ → Faces → Pattern
pattern_at w s = record {
  rows = s.rows;
  offsets = part s.offsets (s.rows + 1) w;
  columns = part s.columns s.entries w;
}

-- A valid pattern stands in the store, and ends at or below `starts`, from where on everything is written.
pub record Standing (w : List ℕ) (s : Faces) : Type 0 where
  pub few : s.rows ≤ 65536
  pub less : s.entries ≤ 1048576
  pub offsets : s.offsets + s.rows + 1 ≤ s.starts
  pub columns : s.columns + s.entries ≤ s.starts
  pub inside : s.starts ≤ length w
  pub valid : Valid (pattern_at w s)

-- The same, and its columns rise within each row.
pub record Ordered (w : List ℕ) (s : Faces) : Type 0 where
  pub standing : Standing w s
  pub rising : Rising (pattern_at w s)

-- ---- face offsets

-- The pattern, and room for the face offsets at `starts`.
pub record OffsetsOk (w : List ℕ) (s : Faces) : Type 0 where
  pub standing : Standing w s
  pub room : s.starts + s.rows + 1 ≤ length w

-- The face offsets at `starts`; r faces.
pub record OffsetsDone (w z : List ℕ) (s : Faces) (r : ℕ) : Type 0 where
  pub wrote : Wrote s.starts (s.rows + 1) (face_offsets_of (pattern_at w s)) w z
  pub found : r ≡ faces_of (pattern_at w s)

-- ---- faces

-- The pattern, with as many faces as the sizes say, and room for their columns, then for their entries.
pub record FillOk (w : List ℕ) (s : Faces) : Type 0 where
  pub standing : Standing w s
  pub count : s.faces ≡ faces_of (pattern_at w s)
  pub neighbors : s.starts ≤ s.neighbors
  pub uppers : s.neighbors + s.faces ≤ s.uppers
  pub room : s.uppers + s.faces ≤ length w

-- The faces' columns at `neighbors` and their entries at `uppers`; nothing before and nothing behind is changed.
pub record Filled (w z : List ℕ) (s : Faces) : Type 0 where
  pub neighbors : part s.neighbors s.faces z ≡ neighbors_of (pattern_at w s)
  pub uppers : part s.uppers s.faces z ≡ uppers_of (pattern_at w s)
  pub kept : Kept s.neighbors w z
  pub behind : (a m : ℕ) → s.uppers + s.faces ≤ a → part a m z ≡ part a m w

-- ---- mirrors

-- The pattern in order, with as many faces as the sizes say, and room for their mirrors.
pub record MirrorsOk (w : List ℕ) (s : Faces) : Type 0 where
  pub ordered : Ordered w s
  pub count : s.faces ≡ faces_of (pattern_at w s)
  pub lowers : s.starts ≤ s.lowers
  pub room : s.lowers + s.faces ≤ length w

-- Whether each entry has its mirror; if so the faces' mirrors at `lowers`; in any case nothing else is changed.
pub record MirrorsDone (w z : List ℕ) (s : Faces) (r : Bool) : Type 0 where
  pub answer : r ≡ mirrored_of (pattern_at w s)
  pub lowers : r ≡ true → part s.lowers s.faces z ≡ lowers_of (pattern_at w s)
  pub only : Wrote s.lowers s.faces (part s.lowers s.faces z) w z

-- ---- diagonal entries

-- The pattern in order, and room for an entry of each row.
pub record DiagonalsOk (w : List ℕ) (s : Faces) : Type 0 where
  pub ordered : Ordered w s
  pub below : s.starts ≤ s.diagonals
  pub room : s.diagonals + s.rows ≤ length w

-- Whether each row has its diagonal entry; if so these at `diagonals`; in any case nothing else is changed.
pub record DiagonalsDone (w z : List ℕ) (s : Faces) (level : ℕ) (r : Result Unit Refusal) : Type 0 where
  pub verdict : r ≡ verdict_of (diagonals_asked level (pattern_at w s))
  pub diagonals : r ≡ Ok tt → part s.diagonals s.rows z ≡ diagonals_of (pattern_at w s)
  pub only : Wrote s.diagonals s.rows (part s.diagonals s.rows z) w z

-- ---- coupled rows

-- The pattern in order, each row with its diagonal entry.
pub record CoupledOk (w : List ℕ) (s : Faces) : Type 0 where
  pub ordered : Ordered w s
  pub diagonal : Diagonal (pattern_at w s)

-- r rows are coupled.
pub record CoupledCount (w : List ℕ) (s : Faces) (r : ℕ) : Type 0 where
  pub count : r ≡ coupled_count_of (pattern_at w s)

-- The same, and room at `to` for the coupled rows.
pub record CoupledRowsOk (w : List ℕ) (s : Faces) (to : ℕ) : Type 0 where
  pub coupled : CoupledOk w s
  pub below : s.starts ≤ to
  pub room : to + coupled_count_of (pattern_at w s) ≤ length w

-- The coupled rows at `to`.
pub record CoupledRows (w z : List ℕ) (s : Faces) (to : ℕ) : Type 0 where
  pub wrote : Wrote to (coupled_count_of (pattern_at w s)) (coupled_rows_of (pattern_at w s)) w z
