-- What the inner functions require and ensure: a level is laid in three steps, its words up to the face offsets, its faces, its values.
-- Definitions only.
use Rattle.refusal.specs.declared.Refusal.{Refusal}
use Rattle.std.specs.Prelude.{◌≡◌, Bool, cond, not, List, ℕ, ◌+◌, ◌*◌, ◌≤◌, length, Float, Result, Ok}
use Rattle.store.specs.Region.{idx, part, CopyOk, Kept}
use Rattle.refusal.specs.Outcome.{Outcome, accepted, verdict_of}
use Rattle.coefficients.specs.Update.{Coefficients, kernel_update_of}
use Rattle.coefficients.specs.Contract.{UpdateOk, Holds, Within}
use Rattle.aggregation.specs.declared.Graph.{Graph}
use Rattle.pattern.specs.Pattern.{Pattern, Valid, Rising, Mirrored}
use Rattle.faces.specs.Faces.{faces_of, face_offsets_of, neighbors_of, uppers_of, lowers_of, diagonals_of, diagonals_asked}
use Rattle.faces.specs.Contract.{Ordered}
use Rattle.layout.specs.declared.Place.{Place}
use Rattle.layout.specs.Layout.{place_of}
use Rattle.layout.specs.Parts.{kernel_in, entries_in, faces_in}
use Rattle.coarsening.specs.declared.coarsen.Workspace.{Workspace}
use Rattle.coarsening.specs.CoarsenContract.{pattern_at, next_in}
use Rattle.build_level.specs.declared.laying.Frontier.{Frontier}
use Rattle.build_level.specs.LayingContract.{level_in}

-- the pattern at the frontier, in the temporaries
abbrev pub new_pattern : List ℕ → Workspace → Frontier → Pattern
new_pattern w t s = pattern_at w (next_in t s.rows s.entries)

-- the place of the level at the frontier, if it has so many faces
abbrev pub place_in : Frontier → ℕ → Place
place_in s faces = place_of s.a s.b s.rows s.entries faces

-- ---- words

-- A symmetric pattern in the temporaries, and room for the level below them.
pub record WordsOk (w : List ℕ) (t : Workspace) (s : Frontier) : Type 0 where
  pub few : s.rows ≤ 65536
  pub less : s.entries ≤ 1048576
  pub below : s.a + (5 * s.rows + 4 * s.entries + 8) ≤ t.offsets
  pub offsets : t.offsets + s.rows + 1 ≤ t.columns
  pub columns : t.columns + s.entries ≤ length w
  pub under : s.b + (3 * s.rows + 2 * s.entries) ≤ 18446744073709551615
  pub valid : Valid (new_pattern w t s)
  pub rising : Rising (new_pattern w t s)
  pub mirrored : Mirrored (new_pattern w t s)

-- The header and the pattern are laid, whatever the number of faces will be.
pub record PatternLaid (w z : List ℕ) (t : Workspace) (s : Frontier) : Type 0 where
  pub head : idx z s.a ≡ s.rows
  pub pattern : pattern_at z (level_in t (place_in s 0)) ≡ new_pattern w t s
  pub kept : Kept s.a w z

-- And the face offsets; r faces, of which each is two entries.
pub record WordsLaid (w z : List ℕ) (t : Workspace) (s : Frontier) (r : ℕ) : Type 0 where
  pub laid : PatternLaid w z t s
  pub starts : part (place_in s 0).starts (s.rows + 1) z ≡ face_offsets_of (new_pattern w t s)
  pub found : r ≡ faces_of (new_pattern w t s)
  pub half : r + r ≤ s.entries

-- ---- faces

-- the pattern at p
abbrev pub pattern_in : List ℕ → Place → Pattern
pattern_in w p = record {
  rows = p.rows;
  offsets = part p.offsets (p.rows + 1) w;
  columns = part p.columns p.entries w;
}

-- A symmetric pattern stands at p, and the regions of its faces follow one another.
pub record FacesOk (w : List ℕ) (p : Place) : Type 0 where
  pub ordered : Ordered w (faces_in p)
  pub mirrored : Mirrored (pattern_in w p)
  pub count : p.faces ≡ faces_of (pattern_in w p)
  pub starts : p.starts + p.rows + 1 ≤ p.diagonals
  pub diagonals : p.diagonals + p.rows ≤ p.neighbors
  pub neighbors : p.neighbors + p.faces ≤ p.uppers
  pub uppers : p.uppers + p.faces ≤ p.lowers
  pub lowers : p.lowers + p.faces ≤ length w

-- Question 11's answer; the faces are laid, and where it passes the diagonal entries. Below them nothing changed.
pub record FacesLaid (w z : List ℕ) (p : Place) (level : ℕ) (r : Result Unit Refusal) : Type 0 where
  pub verdict : r ≡ verdict_of (diagonals_asked level (pattern_in w p))
  pub diagonals : r ≡ Ok tt → part p.diagonals p.rows z ≡ diagonals_of (pattern_in w p)
  pub neighbors : part p.neighbors p.faces z ≡ neighbors_of (pattern_in w p)
  pub uppers : part p.uppers p.faces z ≡ uppers_of (pattern_in w p)
  pub lowers : part p.lowers p.faces z ≡ lowers_of (pattern_in w p)
  pub kept : Kept p.diagonals w z

-- ---- values

-- Values at `from`, apart from their place, and the kernel's own regions.
pub record ValuesOk (w : List ℕ) (size : ℕ) (p : Place) (from : ℕ) : Type 0 where
  pub copy : CopyOk size p.entries from p.values
  pub update : UpdateOk w size (kernel_in p) (entries_in p)

-- the coefficients of the values at `from`, or the refusal of question 12 or 13
abbrev pub update_from : ℕ → List ℕ → List Float → Place → ℕ → Outcome Coefficients
update_from level w F p from =
    kernel_update_of level p.rows (part p.diagonals p.rows w) (part p.uppers (idx w (p.starts + p.rows)) w) (part from p.entries F)

-- Their answer; the values are laid, and where they pass the coefficients. Outside of these nothing changed.
pub record ValuesLaid (w : List ℕ) (F G : List Float) (p : Place) (from level : ℕ) (r : Result Unit Refusal) : Type 0 where
  pub verdict : r ≡ verdict_of (update_from level w F p from)
  pub values : part p.values p.entries G ≡ part from p.entries F
  pub holds : (k : Coefficients) → update_from level w F p from ≡ accepted k → Holds w (kernel_in p) k G
  pub within : Within p.values (p.inverse + p.rows) F G

-- ---- aggregates

-- the matrix of the level at p as `pairs` takes it: by its weights, or by its values where none are given, and the cap
abbrev pub graph_in : Bool → Workspace → Place → ℕ → Graph
graph_in given t p cap = record {
  rows = p.rows;
  entries = p.entries;
  offsets = p.offsets;
  columns = p.columns;
  map = p.links;
  weights = cond given t.weights p.values;
  absolute = not given;
  cap = cap;
}
