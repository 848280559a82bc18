-- One merged step in the stores, up to its pairing and after it: what the inner functions require and ensure. Definitions only.
use Rattle.refusal.specs.declared.Refusal.{Refusal}
use Rattle.std.specs.Prelude.{◌≡◌, Bool, not, cond, List, ℕ, ◌+◌, ◌≤◌, ◌<◌, length, Float, Result, Ok, Err, Option, Some, None}
use Rattle.store.specs.Region.{idx, part, Kept}
use Rattle.options.specs.declared.options.MultigridOptions.{MultigridOptions}
use Rattle.refusal.specs.Outcome.{Outcome, accepted, refused, ask_each}
use Rattle.vector.specs.Finite.{all_finite}
use Rattle.coefficients.specs.Update.{Coefficients, diagonal_asked}
use Rattle.coefficients.specs.Contract.{diagonal_at, after}
use Rattle.aggregation.specs.declared.Graph.{Graph}
use Rattle.aggregation.specs.Pairs.{Pairing}
use Rattle.pattern.specs.Pattern.{entries, Maps, Onto, compose_of}
use Rattle.faces.specs.declared.faces.Faces.{Faces}
use Rattle.hierarchy.specs.Proper.{Proper}
use Rattle.hierarchy.specs.Build.{Merged, merged, paired}
use Rattle.hierarchy.specs.Steps.{joined_step, merge_step}
use Rattle.coarsening.specs.declared.coarsen.Workspace.{Workspace}
use Rattle.coarsening.specs.declared.coarsen.Formation.{Formation}
use Rattle.coarsening.specs.CoarsenContract.{pattern_at, mesh_at, merged_in, coarse_at, WorkOk}

-- the matrix made last as `faces` takes it
abbrev pub faces_in : Workspace → ℕ → ℕ → Faces
faces_in t rows entries = record {
  rows = rows;
  entries = entries;
  faces = 0;
  offsets = t.merged_offsets;
  columns = t.merged_columns;
  starts = t.starts;
  diagonals = t.diagonals;
  neighbors = t.neighbors;
  uppers = t.uppers;
  lowers = t.lowers;
}

-- as `pairs` takes it: with its weights, or with its values where no weights are given, and the cap
abbrev pub graph_in : Workspace → ℕ → ℕ → Bool → ℕ → Graph
graph_in t rows entries given cap = record {
  rows = rows;
  entries = entries;
  offsets = t.merged_offsets;
  columns = t.merged_columns;
  map = t.map;
  weights = cond given t.merged_weights t.merged_values;
  absolute = not given;
  cap = cap;
}

-- ---- questions 12 and 13

-- The diagonal entry of each row at `places`, each one of the values.
pub record RowsOk (w : List ℕ) (floats rows entries places values : ℕ) : Type 0 where
  pub words : places + rows ≤ length w
  pub near : (k : ℕ) → k < rows → idx w (places + k) < entries
  pub image : values + entries ≤ floats

-- The verdict decides how the questions go on.
pub record RowsAsked (w : List ℕ) (F : List Float) (rows entries places values level : ℕ) (r : Result Unit Refusal) : Type 0 where
  pub asked : (rest : Outcome Coefficients)
      → ask_each rows (λ row. diagonal_asked level row (diagonal_at w rows entries places values F row)) rest ≡ after r rest

-- ---- up to the pairing

-- The matrix made last stands in the temporaries with a proper pattern.
pub record PairOk (w : List ℕ) (floats : ℕ) (t : Workspace) (count most : ℕ) : Type 0 where
  pub work : WorkOk (length w) floats t
  pub few : count ≤ t.rows
  pub room : most ≤ t.entries
  pub proper : Proper (pattern_at w (merged_in t count most))

-- the pairing of that matrix
abbrev pub paired_at : MultigridOptions → Bool → List ℕ → List Float → Workspace → ℕ → ℕ → ℕ → Pairing
paired_at o given w F t count most stage = paired o given stage (mesh_at w F given (merged_in t count most))

-- how a step goes on after an attempt
abbrev pub step_by : MultigridOptions → Bool → (Merged → Outcome Merged) → Merged → Result (Option ℕ) Refusal → Outcome Merged
step_by o given further s (Err q) = refused q
step_by o given further s (Ok None) = accepted s
step_by o given further s (Ok (Some c)) = joined_step o given further s (paired o given s.stage s.mesh)

-- The attempt decides how the step goes on; a pairing's count, and its map in the temporaries. Below that nothing changed.
pub record PairDone (o : MultigridOptions) (given : Bool) (w z : List ℕ) (F : List Float) (t : Workspace) (count most stage level : ℕ)
    (r : Result (Option ℕ) Refusal) : Type 0 where
  pub step : (further : Merged → Outcome Merged) (map : List ℕ)
      → merge_step o given further level (merged (mesh_at w F given (merged_in t count most)) map stage)
      ≡ step_by o given further (merged (mesh_at w F given (merged_in t count most)) map stage) r
  pub joined : (c : ℕ) → r ≡ Ok (Some c) → c ≡ (paired_at o given w F t count most stage).count
  pub map : (c : ℕ) → r ≡ Ok (Some c) → part t.map count z ≡ (paired_at o given w F t count most stage).map
  pub words : Kept t.map w z

-- ---- after the pairing

-- The same matrix with its aggregates, and the level's map, which leads to its rows.
pub record JoinOk (w : List ℕ) (floats : ℕ) (t : Workspace) (rows map count most joined : ℕ) : Type 0 where
  pub pair : PairOk w floats t count most
  pub below : map + rows ≤ t.offsets
  pub maps : Maps (part map rows w) rows count
  pub joins : Maps (part t.map count w) count joined
  pub onto : Onto (part t.map count w) count joined
  pub fewer : joined ≤ count

-- Question 18's answer, the matrix of the aggregates in the place of the last, and the level's map followed by the pairing.
-- Below the level's map nothing changed.
pub record JoinDone (given : Bool) (w z : List ℕ) (F G : List Float) (t : Workspace) (rows map count most joined : ℕ)
    (r : Formation) : Type 0 where
  pub found : r.entries ≡ entries (coarse_at w F given (merged_in t count most) t.map joined).pattern
  pub finite : r.finite ≡ all_finite r.entries (coarse_at w F given (merged_in t count most) t.map joined).values
  pub mesh : mesh_at z G given (merged_in t joined r.entries) ≡ coarse_at w F given (merged_in t count most) t.map joined
  pub links : part map rows z ≡ compose_of rows (part map rows w) (part t.map count w)
  pub words : Kept map w z
  pub floats : Kept t.merged_values F G
