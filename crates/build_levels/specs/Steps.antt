-- The steps of the descent: what the inner functions require and ensure. Definitions only.
use Rattle.std.specs.Prelude.{◌≡◌, Bool, List, ℕ, ◌+◌, ◌-◌, Float, Result}
use Rattle.store.specs.Region.{part, Kept}
use Rattle.options.specs.declared.options.MultigridOptions.{MultigridOptions}
use Rattle.refusal.specs.declared.Refusal.{Refusal}
use Rattle.refusal.specs.Outcome.{Outcome, accepted, ◌>>=◌}
use Rattle.pattern.specs.Pattern.{entries}
use Rattle.hierarchy.specs.Build.{Mesh, Merged, merged, coarsened_asked, merge_of}
use Rattle.layout.specs.declared.Place.{Place}
use Rattle.coarsening.specs.declared.coarsen.Workspace.{Workspace}
use Rattle.coarsening.specs.CoarsenContract.{mesh_at, merged_in}
use Rattle.coarsening.specs.declared.merging.Merging.{Merging}
use Rattle.coarsening.specs.MergingContract.{merging_of}
use Rattle.build_level.specs.declared.laying.Frontier.{Frontier}
use Rattle.build_level.specs.LayingContract.{level_in}

-- the first coarse matrix, 18, and the merged steps from it
abbrev pub steps_of : MultigridOptions → Bool → ℕ → ℕ → Mesh → List ℕ → ℕ → Outcome Merged
steps_of o given level stage m map count = do
  first ← coarsened_asked given m map count
  merge_of o given (o.merge_levels - 1) (level + 1) (merged first map (stage + 1))

-- the same from the level at p
abbrev pub steps_at : MultigridOptions → Bool → List ℕ → List Float → Workspace → Frontier → Place → ℕ → Outcome Merged
steps_at o given w F t s p count =
    steps_of o given s.level s.stage (mesh_at w F given (level_in t p)) (part p.links p.rows w) count

-- What the steps ensure: the definition's answer; where it accepts, its matrix and its map. Below the links nothing changed.
pub record StepsDone (w z : List ℕ) (F G : List Float) (o : MultigridOptions) (given : Bool) (t : Workspace) (s : Frontier)
    (p : Place) (count : ℕ) (r : Result Merging Refusal) : Type 0 where
  pub answer : r ≡ merging_of (steps_at o given w F t s p count)
  pub mesh : (x : Merged) → steps_at o given w F t s p count ≡ accepted x
      → mesh_at z G given (merged_in t x.mesh.pattern.rows (entries x.mesh.pattern)) ≡ x.mesh
  pub links : (x : Merged) → steps_at o given w F t s p count ≡ accepted x → part p.links p.rows z ≡ x.map
  pub words : Kept p.links w z
  pub floats : Kept t.merged_values F G
