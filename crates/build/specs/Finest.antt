-- The matrix that is built from, in the temporaries and as the finest level: what the functions require and ensure. Definitions only.
use Rattle.std.specs.Prelude.{◌≡◌, Bool, true, cond, List, ℕ, ◌+◌, ◌-◌, ◌*◌, ◌≤◌, length, Float}
use Rattle.float.specs.Float.{zero64}
use Rattle.store.specs.Region.{part, Wrote, Kept}
use Rattle.store.specs.Vector.{filled}
use Rattle.options.specs.declared.options.MultigridOptions.{MultigridOptions}
use Rattle.matrix.specs.Kernel.{kernel_at, row_sums_of, KernelOk}
use Rattle.pattern.specs.Pattern.{Pattern, Valid, Rising}
use Rattle.faces.specs.declared.faces.Faces.{Faces}
use Rattle.hierarchy.specs.Refresh.{needs_sums}
use Rattle.hierarchy.specs.Build.{fixed_charge, symmetric_of}
use Rattle.layout.specs.Layout.{rows_at, entries_at, faces_at, locate}
use Rattle.layout.specs.Parts.{kernel_in}
use Rattle.coarsening.specs.declared.coarsen.Workspace.{Workspace}
use Rattle.coarsening.specs.CoarsenContract.{pattern_at, next_in, WorkOk}
use Rattle.build_level.specs.declared.laying.Frontier.{Frontier}

-- ---- the matrix in the temporaries

-- What loading requires: arrays as long as the temporaries' sizes say.
pub record LoadOk (words floats : ℕ) (offsets columns : List ℕ) (values : List Float) (given : Bool) (weights : List Float)
    (t : Workspace) : Type 0 where
  pub work : WorkOk words floats t
  pub rowed : length offsets ≡ t.rows + 1
  pub listed : length columns ≡ t.entries
  pub valued : length values ≡ t.entries
  pub weighed : given ≡ true → length weights ≡ t.entries

-- What it ensures: the arrays stand in the temporaries of the next level's matrix.
pub record Loaded (w z : List ℕ) (F G : List Float) (offsets columns : List ℕ) (values : List Float) (given : Bool)
    (weights : List Float) (t : Workspace) : Type 0 where
  pub rowed : part t.offsets (t.rows + 1) z ≡ offsets
  pub listed : part t.columns t.entries z ≡ columns
  pub valued : part t.values t.entries G ≡ values
  pub weighed : given ≡ true → part t.weights t.entries G ≡ weights
  pub wordsize : length z ≡ length w
  pub floatsize : length G ≡ length F

-- room at `to` for the weights that are given
pub record WeightsOk (size : ℕ) (given : Bool) (weights : List Float) (to : ℕ) : Type 0 where
  pub room : given ≡ true → to + length weights ≤ size

-- the weights at `to` where they are given
pub record WeightsLoaded (F G : List Float) (given : Bool) (weights : List Float) (to : ℕ) : Type 0 where
  pub wrote : given ≡ true → Wrote to (length weights) weights F G
  pub kept : Kept to F G

-- the finest pattern in the temporaries
abbrev pub finest_at : List ℕ → Workspace → Pattern
finest_at w t = pattern_at w (next_in t t.rows t.entries)

-- its faces, of which there are so many
abbrev pub faces_in : Workspace → ℕ → Faces
faces_in t faces = record {
  rows = t.rows;
  entries = t.entries;
  faces = faces;
  offsets = t.offsets;
  columns = t.columns;
  starts = t.starts;
  diagonals = t.diagonals;
  neighbors = t.neighbors;
  uppers = t.uppers;
  lowers = t.lowers;
}

-- What question 10 requires: the finest pattern in order, a value for each entry, and room for the faces.
pub record SymmetricOk (w : List ℕ) (values : List Float) (t : Workspace) : Type 0 where
  pub few : t.rows ≤ 65536
  pub less : t.entries ≤ 1048576
  pub offsets : t.offsets + t.rows + 1 ≤ t.starts
  pub columns : t.columns + t.entries ≤ t.starts
  pub starts : t.starts + t.rows + 1 ≤ t.neighbors
  pub neighbors : t.neighbors + t.entries ≤ t.uppers
  pub uppers : t.uppers + t.entries ≤ t.lowers
  pub lowers : t.lowers + t.entries ≤ length w
  pub valid : Valid (finest_at w t)
  pub rising : Rising (finest_at w t)
  pub counted : length values ≡ t.entries

-- What it ensures: its answer, and nothing below the faces changed.
pub record SymmetricDone (w z : List ℕ) (values : List Float) (t : Workspace) (r : Bool) : Type 0 where
  pub answer : r ≡ symmetric_of (finest_at w t) values
  pub words : Kept t.starts w z

-- ---- the finest level

-- the frontier at the finest level: the fixed charge and its own
abbrev pub finest_of : MultigridOptions → Workspace → Frontier
finest_of o t = record {
  rows = t.rows;
  entries = t.entries;
  a = 0;
  b = 0;
  words = (fixed_charge o t.rows t.entries).words + (5 * t.rows + 4 * t.entries + 8);
  floats = (fixed_charge o t.rows t.entries).floats + (20 * t.rows + 4 * t.entries);
  level = 0;
  stage = 0;
  more = o.max_levels - 1;
}

-- The first level in the stores has so many rows and entries, and few faces.
pub record FirstOk (w : List ℕ) (rows entries : ℕ) : Type 0 where
  pub few : rows ≤ 65536
  pub less : entries ≤ 1048576
  pub tall : rows_at w 0 ≡ rows
  pub most : entries_at w 0 ≡ entries
  pub faces : faces_at w 0 ≤ 1048576
  pub inside : (locate w 0 0).starts + rows_at w 0 + 1 ≤ length w

-- What the row sums of the finest level at `end` require: it stands first in the stores, below them.
pub record SumsOk (w : List ℕ) (size end rows entries : ℕ) : Type 0 where
  pub first : FirstOk w rows entries
  pub kernel : KernelOk w end (kernel_in (locate w 0 0))
  pub room : end + rows ≤ size

-- What they ensure.
pub record Summed (w : List ℕ) (F G : List Float) (o : MultigridOptions) (end rows : ℕ) : Type 0 where
  pub wrote : Wrote end rows (cond (needs_sums o.residual_norm) (row_sums_of (kernel_at (kernel_in (locate w 0 0)) w F)) (filled rows zero64)) F G
