-- Merged steps in the stores: what the functions require and ensure. Definitions only.
use Rattle.std.specs.Prelude.{◌≡◌, Bool, List, ℕ, ◌+◌, ◌≤◌, length, Float, Result, Ok, Err}
use Rattle.store.specs.Region.{part, Kept}
use Rattle.options.specs.declared.options.MultigridOptions.{MultigridOptions}
use Rattle.refusal.specs.declared.Refusal.{Refusal}
use Rattle.refusal.specs.Outcome.{Outcome, accepted, refused}
use Rattle.pattern.specs.Pattern.{entries, Maps, Onto}
use Rattle.hierarchy.specs.Proper.{Proper}
use Rattle.hierarchy.specs.Build.{Merged, merged, merge_of}
use Rattle.coarsening.specs.declared.coarsen.Workspace.{Workspace}
use Rattle.coarsening.specs.CoarsenContract.{pattern_at, mesh_at, merged_in, WorkOk}
use Rattle.coarsening.specs.declared.merging.Merging.{Merging}

-- the answer of merged steps
abbrev pub merging_of : Outcome Merged → Result Merging Refusal
merging_of (accepted s) = Ok (record { count = s.mesh.pattern.rows; entries = entries s.mesh.pattern; stage = s.stage })
merging_of (refused q) = Err q

-- The matrix made last, of `count` rows and so many entries, stands in the temporaries with a proper pattern, and at `map`, below the
-- temporaries, the aggregate in it of each of `rows` rows.
pub record MergeOk (w : List ℕ) (floats : ℕ) (t : Workspace) (rows map count most stage steps : ℕ) : Type 0 where
  pub work : WorkOk (length w) floats t
  pub within : rows ≤ t.rows
  pub fewer : count ≤ rows
  pub room : most ≤ t.entries
  pub below : map + rows ≤ t.offsets
  pub proper : Proper (pattern_at w (merged_in t count most))
  pub maps : Maps (part map rows w) rows count
  pub onto : Onto (part map rows w) rows count
  pub stages : stage + steps ≤ 18446744073709551615

-- the merged steps from what stands in the stores
abbrev pub merge_at : MultigridOptions → Bool → List ℕ → List Float → Workspace → ℕ → ℕ → ℕ → ℕ → ℕ → ℕ → ℕ → Outcome Merged
merge_at o given w F t rows map count most stage steps level =
    merge_of o given steps level (merged (mesh_at w F given (merged_in t count most)) (part map rows w) stage)

-- What they ensure: the definition's answer; where it accepts, its matrix and its map. Below the map nothing changed.
pub record MergeDone (o : MultigridOptions) (given : Bool) (w z : List ℕ) (F G : List Float) (t : Workspace) (rows map count most stage steps level : ℕ) (r : Result Merging Refusal) : Type 0 where
  pub answer : r ≡ merging_of (merge_at o given w F t rows map count most stage steps level)
  pub mesh : (s : Merged) → merge_at o given w F t rows map count most stage steps level ≡ accepted s
      → mesh_at z G given (merged_in t s.mesh.pattern.rows (entries s.mesh.pattern)) ≡ s.mesh
  pub links : (s : Merged) → merge_at o given w F t rows map count most stage steps level ≡ accepted s → part map rows z ≡ s.map
  pub words : Kept map w z
  pub floats : Kept t.merged_values F G
