-- The frontier of the build, a level that is laid there, and what the functions require and ensure. Definitions only.
use Rattle.refusal.specs.declared.Refusal.{Refusal}
use Rattle.std.specs.Prelude.{◌≡◌, Bool, false, cond, List, ℕ, ◌+◌, ◌*◌, ◌≤◌, length, Float, Result, Ok, Err}
use Rattle.store.specs.Region.{part, Kept}
use Rattle.options.specs.declared.options.MultigridOptions.{MultigridOptions}
use Rattle.refusal.specs.Outcome.{Outcome, accepted, refused, ◌>>=◌}
use Rattle.coefficients.specs.Update.{Coefficients}
use Rattle.pattern.specs.Pattern.{Valid, Rising, Mirrored}
use Rattle.faces.specs.Faces.{faces_of, diagonals_asked}
use Rattle.hierarchy.specs.Proper.{Proper}
use Rattle.hierarchy.specs.Build.{Mesh, fixed_charge, kernel_asked, paired}
use Rattle.hierarchy.specs.Steps.{ends_at}
use Rattle.layout.specs.declared.Place.{Place}
use Rattle.layout.specs.Placed.{Placed, Shapes, coefficients_at}
use Rattle.coarsening.specs.declared.coarsen.Held.{Held}
use Rattle.coarsening.specs.declared.coarsen.Workspace.{Workspace}
use Rattle.coarsening.specs.CoarsenContract.{pattern_at, mesh_at, next_in, WorkOk}
use Rattle.build_level.specs.declared.laying.Frontier.{Frontier}

-- the matrix of the level at the frontier, in the temporaries
abbrev pub frontier_at : List ℕ → List Float → Bool → Workspace → Frontier → Mesh
frontier_at w F given t s = mesh_at w F given (next_in t s.rows s.entries)

-- a level's matrix at its place, with its weights in the temporaries
abbrev pub level_in : Workspace → Place → Held
level_in t p = record {
  rows = p.rows;
  entries = p.entries;
  offsets = p.offsets;
  columns = p.columns;
  values = p.values;
  weights = t.weights;
}

-- What the controls were asked: 6.
pub record ControlsOk (o : MultigridOptions) : Type 0 where
  pub coarsest : o.coarsest_cells ≤ 256
  pub merges : o.merge_levels ≤ 4
  pub merge : 1 ≤ o.merge_levels

-- The temporaries take the fixed charge at the ends of the stores but for the room of the factor; the charges so far, this level's
-- among them, lie in the stores; the level's words and floats, and the row sums of the finest, end before the temporaries.
pub record RoomOk (words floats : ℕ) (o : MultigridOptions) (t : Workspace) (s : Frontier) : Type 0 where
  pub work : WorkOk words floats t
  pub few : s.rows ≤ t.rows
  pub less : s.entries ≤ t.entries
  pub ends : t.offsets + (fixed_charge o t.rows t.entries).words ≡ words
  pub tops : t.values + ((12 + 2 * o.krylov_dimension) * t.rows + 8 * t.entries) ≡ floats
  pub below : s.a + (5 * s.rows + 4 * s.entries + 8) + (fixed_charge o t.rows t.entries).words ≤ s.words
  pub under : s.b + (3 * s.rows + 2 * s.entries) + t.rows + (fixed_charge o t.rows t.entries).floats ≤ s.floats
  pub heldwords : s.words ≤ words
  pub heldfloats : s.floats ≤ floats

-- What the levels from the frontier on require: the controls, the room, and a symmetric pattern of the matrix.
pub record FrontierOk (w : List ℕ) (size : ℕ) (o : MultigridOptions) (t : Workspace) (s : Frontier) : Type 0 where
  pub controls : ControlsOk o
  pub room : RoomOk (length w) size o t s
  pub valid : Valid (pattern_at w (next_in t s.rows s.entries))
  pub rising : Rising (pattern_at w (next_in t s.rows s.entries))
  pub mirrored : Mirrored (pattern_at w (next_in t s.rows s.entries))
  pub levels : s.level + s.more + 1 ≤ 18446744073709551615
  pub stages : s.stage + 4 * s.more + 4 ≤ 18446744073709551615

-- questions 11, 12 and 13 of a level, and its coefficients
abbrev pub laid_of : ℕ → Mesh → Outcome Coefficients
laid_of level m = do
  _ ← diagonals_asked level m.pattern
  kernel_asked level m

abbrev pub laying_of : Mesh → Outcome Coefficients → Result ℕ Refusal
laying_of m (accepted c) = Ok (faces_of m.pattern)
laying_of m (refused q) = Err q

-- A level with a proper pattern stands at p, its words from a on and its floats from b on.
pub record Stands (w : List ℕ) (t : Workspace) (a b : ℕ) (p : Place) : Type 0 where
  pub placed : Placed a b p
  pub shapes : Shapes w a p (pattern_at w (level_in t p))
  pub proper : Proper (pattern_at w (level_in t p))

-- And it is that of the matrix m with the coefficients c.
pub record StandsFor (w : List ℕ) (F : List Float) (given : Bool) (t : Workspace) (a b : ℕ) (p : Place) (m : Mesh) (c : Coefficients) : Type 0 where
  pub stands : Stands w t a b p
  pub mesh : mesh_at w F given (level_in t p) ≡ m
  pub coefficients : coefficients_at F p ≡ c

-- What laying a level ensures: the questions' answer; where they pass, the level stands at its place. Below it nothing changed.
pub record Laid (w z : List ℕ) (F G : List Float) (given : Bool) (t : Workspace) (s : Frontier) (r : Result ℕ Refusal) : Type 0 where
  pub answer : r ≡ laying_of (frontier_at w F given t s) (laid_of s.level (frontier_at w F given t s))
  pub stands : (c : Coefficients) (p : Place) → laid_of s.level (frontier_at w F given t s) ≡ accepted c
      → Placed s.a s.b p → p.rows ≡ s.rows → p.entries ≡ s.entries → p.faces ≡ faces_of (frontier_at w F given t s).pattern
      → StandsFor z G given t s.a s.b p (frontier_at w F given t s) c
  pub words : Kept s.a w z
  pub floats : Kept s.b F G

-- What the choice of aggregates requires: a level that stands at p, and the room.
pub record ChooseOk (w : List ℕ) (size : ℕ) (o : MultigridOptions) (t : Workspace) (s : Frontier) (p : Place) : Type 0 where
  pub room : RoomOk (length w) size o t s
  pub rows : p.rows ≡ s.rows
  pub most : p.entries ≡ s.entries
  pub stands : Stands w t s.a s.b p

-- What it ensures: the rows where the level is the last, else the count of aggregates with their map; only words from the links on
-- are written.
pub record Chosen (w z : List ℕ) (F : List Float) (o : MultigridOptions) (given : Bool) (t : Workspace) (s : Frontier) (p : Place) (r : ℕ) : Type 0 where
  pub count : r ≡ cond (ends_at o s.more (pattern_at w (level_in t p))) p.rows (paired o given s.stage (mesh_at w F given (level_in t p))).count
  pub links : ends_at o s.more (pattern_at w (level_in t p)) ≡ false
      → part p.links p.rows z ≡ (paired o given s.stage (mesh_at w F given (level_in t p))).map
  pub words : Kept p.links w z
