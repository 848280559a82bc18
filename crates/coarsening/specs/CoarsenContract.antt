-- Matrices of the build in the stores, the temporaries, and what the functions require and ensure. Definitions only.
use Rattle.std.specs.Prelude.{◌≡◌, Bool, true, false, cond, List, [], ℕ, ◌+◌, ◌≤◌, length, Float}
use Rattle.store.specs.Region.{part, Kept}
use Rattle.vector.specs.Finite.{all_finite}
use Rattle.pattern.specs.Pattern.{Pattern, entries, Valid, Rising, Mirrored, coarse_positions, Maps, Onto}
use Rattle.galerkin.specs.Contract.{galerkin_of, restrict_weights_of, SumsOk, FacesOk, WeightsOk}
use Rattle.faces.specs.Faces.{faces_of, uppers_of, lowers_of}
use Rattle.hierarchy.specs.Proper.{Proper}
use Rattle.hierarchy.specs.Build.{Mesh, coarsened}
use Rattle.coarsening.specs.declared.coarsen.Held.{Held}
use Rattle.coarsening.specs.declared.coarsen.Workspace.{Workspace}
use Rattle.coarsening.specs.declared.coarsen.Formation.{Formation}

-- the pattern of a matrix in the words
abbrev pub pattern_at : List ℕ → Held → Pattern
pattern_at w m = record {
  rows = m.rows;
  offsets = part m.offsets (m.rows + 1) w;
  columns = part m.columns m.entries w;
}

-- a matrix in the stores; where no weights are given it has none
abbrev pub mesh_at : List ℕ → List Float → Bool → Held → Mesh
mesh_at w F given m = record {
  pattern = pattern_at w m;
  values = part m.values m.entries F;
  weights = cond given (part m.weights m.entries F) [];
}

-- the place of the next level's matrix
abbrev pub next_in : Workspace → ℕ → ℕ → Held
next_in t rows entries = record {
  rows = rows;
  entries = entries;
  offsets = t.offsets;
  columns = t.columns;
  values = t.values;
  weights = t.weights;
}

-- of the one that merged steps made last
abbrev pub merged_in : Workspace → ℕ → ℕ → Held
merged_in t rows entries = record {
  rows = rows;
  entries = entries;
  offsets = t.merged_offsets;
  columns = t.merged_columns;
  values = t.merged_values;
  weights = t.merged_weights;
}

-- The temporaries follow one another in stores of so many words and floats.
pub record WorkOk (words floats : ℕ) (t : Workspace) : Type 0 where
  pub few : t.rows ≤ 65536
  pub less : t.entries ≤ 1048576
  pub offsets : t.offsets + t.rows + 1 ≤ t.columns
  pub columns : t.columns + t.entries ≤ t.merged_offsets
  pub starts : t.merged_offsets + t.rows + 1 ≤ t.merged_columns
  pub targets : t.merged_columns + t.entries ≤ t.map
  pub map : t.map + t.rows ≤ t.positions
  pub positions : t.positions + t.entries ≤ t.coarse_offsets
  pub firsts : t.coarse_offsets + t.rows + 1 ≤ t.coarse_columns
  pub sides : t.coarse_columns + t.entries ≤ t.scratch
  pub scratch : t.scratch + t.rows + t.rows + t.rows ≤ t.starts
  pub faces : t.starts + t.rows + 1 ≤ t.diagonals
  pub diagonals : t.diagonals + t.rows ≤ t.neighbors
  pub neighbors : t.neighbors + t.entries ≤ t.uppers
  pub uppers : t.uppers + t.entries ≤ t.lowers
  pub lowers : t.lowers + t.entries ≤ words
  pub values : t.values + t.entries ≤ t.weights
  pub weights : t.weights + t.entries ≤ t.merged_values
  pub mergedvalues : t.merged_values + t.entries ≤ t.merged_weights
  pub mergedweights : t.merged_weights + t.entries ≤ t.coarse_values
  pub coarsevalues : t.coarse_values + t.entries ≤ t.coarse_weights
  pub coarseweights : t.coarse_weights + t.entries ≤ floats

-- A matrix m below the temporaries that are written, with a proper pattern, and at `map` its aggregates, of which there are `count`.
pub record StepOk (w : List ℕ) (floats : ℕ) (m : Held) (map count : ℕ) (t : Workspace) : Type 0 where
  pub work : WorkOk (length w) floats t
  pub rows : m.rows ≤ t.rows
  pub most : m.entries ≤ t.entries
  pub offsets : m.offsets + m.rows + 1 ≤ t.positions
  pub columns : m.columns + m.entries ≤ t.positions
  pub above : map + m.rows ≤ t.positions
  pub values : m.values + m.entries ≤ t.coarse_values
  pub weights : m.weights + m.entries ≤ t.coarse_values
  pub proper : Proper (pattern_at w m)
  pub maps : Maps (part map m.rows w) m.rows count
  pub onto : Onto (part map m.rows w) m.rows count
  pub fewer : count ≤ m.rows

-- the coarse matrix of m
abbrev pub coarse_at : List ℕ → List Float → Bool → Held → ℕ → ℕ → Mesh
coarse_at w F given m map count = coarsened given (mesh_at w F given m) (part map m.rows w) count

-- What a step ensures: question 18's answer, and the coarse matrix where merged steps keep theirs. Below that nothing changed.
pub record Stepped (w z : List ℕ) (F G : List Float) (given : Bool) (m : Held) (map count : ℕ) (t : Workspace) (r : Formation) : Type 0 where
  pub found : r.entries ≡ entries (coarse_at w F given m map count).pattern
  pub finite : r.finite ≡ all_finite r.entries (coarse_at w F given m map count).values
  pub mesh : mesh_at z G given (merged_in t count r.entries) ≡ coarse_at w F given m map count
  pub words : Kept t.merged_offsets w z
  pub floats : Kept t.merged_values F G

-- And the positions of the level's entries go to `to`, above the level's map and below the temporaries.
pub record RepairOk (w : List ℕ) (floats : ℕ) (m : Held) (map count : ℕ) (t : Workspace) (to : ℕ) : Type 0 where
  pub step : StepOk w floats m map count t
  pub offsets : m.offsets + m.rows + 1 ≤ to
  pub columns : m.columns + m.entries ≤ to
  pub above : map + m.rows ≤ to
  pub room : to + m.entries ≤ t.offsets
  pub values : m.values + m.entries ≤ t.values

-- What a repair ensures: question 18's answer, the positions, and the coarse matrix where the next level's stands, with the weights
-- that merged steps made. Below the positions nothing changed.
pub record Repaired (w z : List ℕ) (F G : List Float) (given : Bool) (m : Held) (map count : ℕ) (t : Workspace) (to : ℕ) (r : Formation) : Type 0 where
  pub found : r.entries ≡ entries (coarse_at w F given m map count).pattern
  pub finite : r.finite ≡ all_finite r.entries (coarse_at w F given m map count).values
  pub positions : part to m.entries z ≡ coarse_positions (pattern_at w m) (part map m.rows w) count
  pub pattern : pattern_at z (next_in t count r.entries) ≡ (coarse_at w F given m map count).pattern
  pub values : part t.values r.entries G ≡ (coarse_at w F given m map count).values
  pub weights : given ≡ true → part t.weights r.entries G ≡ part t.merged_weights r.entries F
  pub words : Kept to w z
  pub floats : Kept t.values F G

-- ---- the inner functions

-- the place of the matrix being formed
abbrev pub formed_in : Workspace → ℕ → ℕ → Held
formed_in t rows entries = record {
  rows = rows;
  entries = entries;
  offsets = t.coarse_offsets;
  columns = t.coarse_columns;
  values = t.coarse_values;
  weights = t.coarse_weights;
}

-- Its pattern, valid, rising and mirrored, with room for its faces behind it.
pub record CoupleOk (w : List ℕ) (count entries : ℕ) (t : Workspace) : Type 0 where
  pub few : count ≤ 65536
  pub less : entries ≤ 1048576
  pub offsets : t.coarse_offsets + count + 1 ≤ t.starts
  pub columns : t.coarse_columns + entries ≤ t.starts
  pub starts : t.starts + count + 1 ≤ t.neighbors
  pub neighbors : t.neighbors + entries ≤ t.uppers
  pub uppers : t.uppers + entries ≤ t.lowers
  pub lowers : t.lowers + entries ≤ length w
  pub valid : Valid (pattern_at w (formed_in t count entries))
  pub rising : Rising (pattern_at w (formed_in t count entries))
  pub mirrored : Mirrored (pattern_at w (formed_in t count entries))

-- Its r faces; below them nothing changed.
pub record Coupled (w z : List ℕ) (count entries : ℕ) (t : Workspace) (r : ℕ) : Type 0 where
  pub found : r ≡ faces_of (pattern_at w (formed_in t count entries))
  pub uppers : part t.uppers r z ≡ uppers_of (pattern_at w (formed_in t count entries))
  pub lowers : part t.lowers r z ≡ lowers_of (pattern_at w (formed_in t count entries))
  pub kept : Kept t.starts w z

-- What the sums and the symmetrisation need.
pub record TotalOk (w : List ℕ) (floats : ℕ) (m : Held) (t : Workspace) (entries faces : ℕ) : Type 0 where
  pub sums : SumsOk w floats m.entries t.positions m.values entries t.coarse_values
  pub pairs : FacesOk w floats faces t.uppers t.lowers entries t.coarse_values

-- The values by the positions and the faces, and whether all are finite; below them nothing changed.
pub record Totaled (w : List ℕ) (F G : List Float) (m : Held) (t : Workspace) (entries faces : ℕ) (r : Bool) : Type 0 where
  pub values : part t.coarse_values entries G ≡ galerkin_of entries m.entries (part t.positions m.entries w)
      (part m.values m.entries F) faces (part t.uppers faces w) (part t.lowers faces w)
  pub finite : r ≡ all_finite entries (part t.coarse_values entries G)
  pub kept : Kept t.coarse_values F G

-- The matrix being formed is the coarse one of m, without its weights; below the positions and the values nothing changed.
pub record Formed (w z : List ℕ) (F G : List Float) (m : Held) (map count : ℕ) (t : Workspace) (r : Formation) : Type 0 where
  pub found : r.entries ≡ entries (coarse_at w F false m map count).pattern
  pub finite : r.finite ≡ all_finite r.entries (coarse_at w F false m map count).values
  pub positions : part t.positions m.entries z ≡ coarse_positions (pattern_at w m) (part map m.rows w) count
  pub pattern : pattern_at z (formed_in t count r.entries) ≡ (coarse_at w F false m map count).pattern
  pub values : part t.coarse_values r.entries G ≡ (coarse_at w F false m map count).values
  pub words : Kept t.positions w z
  pub floats : Kept t.coarse_values F G

-- What its weights need.
abbrev pub WeighOk : List ℕ → ℕ → Held → ℕ → Workspace → ℕ → Type 0
WeighOk w floats m count t entries =
    WeightsOk w floats count m.entries t.positions t.coarse_offsets t.coarse_columns m.weights entries
    t.coarse_weights

-- The weights by the positions, where they are given; below them nothing changed.
pub record Weighed (w : List ℕ) (F G : List Float) (m : Held) (count : ℕ) (t : Workspace) (entries : ℕ) (given : Bool) : Type 0 where
  pub weights : given ≡ true → part t.coarse_weights entries G ≡ restrict_weights_of entries m.entries
      (part t.positions m.entries w) (part m.weights m.entries F) count
      (part t.coarse_offsets (count + 1) w) (part t.coarse_columns entries w)
  pub kept : Kept t.coarse_weights F G

-- Where its offsets and columns go, below it.
pub record SettleOk (words count entries : ℕ) (t : Workspace) (offsets columns : ℕ) : Type 0 where
  pub order : offsets + count + 1 ≤ columns
  pub below : columns + entries ≤ t.coarse_offsets
  pub firsts : t.coarse_offsets + count + 1 ≤ t.coarse_columns
  pub room : t.coarse_columns + entries ≤ words

-- There they are; below them nothing changed.
pub record Settled (w z : List ℕ) (count entries : ℕ) (t : Workspace) (offsets columns : ℕ) : Type 0 where
  pub starts : part offsets (count + 1) z ≡ part t.coarse_offsets (count + 1) w
  pub targets : part columns entries z ≡ part t.coarse_columns entries w
  pub kept : Kept offsets w z

-- n values, n weights, and below both where they go, one behind the other.
pub record FloatsOk (floats n values weights to beside : ℕ) : Type 0 where
  pub order : to + n ≤ beside
  pub below : beside + n ≤ values
  pub under : beside + n ≤ weights
  pub room : values + n ≤ floats
  pub fits : weights + n ≤ floats

-- There they are, the weights where they are given; below them nothing changed.
pub record Floats (F G : List Float) (n values weights to beside : ℕ) (given : Bool) : Type 0 where
  pub first : part to n G ≡ part values n F
  pub second : given ≡ true → part beside n G ≡ part weights n F
  pub kept : Kept to F G
