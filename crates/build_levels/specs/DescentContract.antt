-- From a level with aggregates to the matrix of the next: definition, and what the functions require and ensure. Definitions only.
use Rattle.std.specs.Prelude.{◌≡◌, Bool, List, ℕ, ◌+◌, ◌-◌, ◌≤◌, Float, Result, Ok, Err}
use Rattle.store.specs.Region.{part, Kept}
use Rattle.options.specs.declared.options.MultigridOptions.{MultigridOptions}
use Rattle.refusal.specs.declared.Refusal.{Refusal}
use Rattle.refusal.specs.Outcome.{Outcome, accepted, refused, ◌>>=◌}
use Rattle.coefficients.specs.Update.{Coefficients}
use Rattle.pattern.specs.Pattern.{entries, Maps, Onto}
use Rattle.hierarchy.specs.Level.{Numbers}
use Rattle.hierarchy.specs.Refresh.{inner_numbers}
use Rattle.hierarchy.specs.Proper.{Proper}
use Rattle.hierarchy.specs.Build.{Mesh, Merged, merged, inner_shape, coarsened_asked, merge_of}
use Rattle.layout.specs.declared.Place.{Place}
use Rattle.layout.specs.Layout.{level_at, words_end, floats_end}
use Rattle.layout.specs.Headers.{head_at, head_of}
use Rattle.layout.specs.Placed.{coefficients_at}
use Rattle.coarsening.specs.declared.coarsen.Workspace.{Workspace}
use Rattle.coarsening.specs.declared.merging.Merging.{Merging}
use Rattle.coarsening.specs.CoarsenContract.{mesh_at, next_in}
use Rattle.build_level.specs.declared.laying.Frontier.{Frontier}
use Rattle.build_level.specs.LayingContract.{level_in, ControlsOk, ChooseOk}

-- the numbers of a level, what its merged steps made, and the matrix that is summed afresh from it
pub record Descent : Type 0 where
  pub numbers : Numbers
  pub steps : Merged
  pub next : Mesh

-- the next level's matrix: the one summed afresh, with the weights of the merged one
abbrev pub next_of : Descent → Mesh
next_of d = record { pattern = d.next.pattern; values = d.next.values; weights = d.steps.mesh.weights }

-- the first part of `innerLevel`, up to the charge of the next level: 16 and 17, 18, the merged steps, 18
abbrev pub descent_of : MultigridOptions → Bool → ℕ → ℕ → Mesh → Coefficients → List ℕ → ℕ → Outcome Descent
descent_of o given level stage m c map count = do
  n ← inner_numbers o level (inner_shape m.pattern map count) c
  first ← coarsened_asked given m map count
  s ← merge_of o given (o.merge_levels - 1) (level + 1) (merged first map (stage + 1))
  next ← coarsened_asked given m s.map s.mesh.pattern.rows
  accepted (record { numbers = n; steps = s; next = next })

abbrev pub descending_of : Outcome Descent → Result Merging Refusal
descending_of (accepted d) = Ok (record { count = d.steps.mesh.pattern.rows; entries = entries d.next.pattern; stage = d.steps.stage })
descending_of (refused q) = Err q

-- What the descent requires: the controls, a level that stands at p, and its aggregates at the links.
pub record DescendOk (w : List ℕ) (size : ℕ) (o : MultigridOptions) (t : Workspace) (s : Frontier) (p : Place) (count : ℕ) : Type 0 where
  pub controls : ControlsOk o
  pub level : ChooseOk w size o t s p
  pub fewer : count ≤ p.rows
  pub maps : Maps (part p.links p.rows w) p.rows count
  pub onto : Onto (part p.links p.rows w) p.rows count
  pub stages : s.stage + 4 ≤ 18446744073709551615
  pub levels : s.level + 1 ≤ 18446744073709551615

-- the descent from the level at p
abbrev pub descent_at : MultigridOptions → Bool → List ℕ → List Float → Workspace → Frontier → Place → ℕ → Outcome Descent
descent_at o given w F t s p count =
    descent_of o given s.level s.stage (mesh_at w F given (level_in t p)) (coefficients_at F p) (part p.links p.rows w) count

-- Where it accepts: the level is whole with its header, the next one's matrix stands in the temporaries, with a proper pattern that is no larger.
pub record Arrived (z : List ℕ) (G : List Float) (given : Bool) (t : Workspace) (s : Frontier) (p : Place) (m : Mesh) (d : Descent) : Type 0 where
  pub level : level_at z G s.a s.b ≡ record { shape = inner_shape m.pattern d.steps.map d.steps.mesh.pattern.rows; numbers = d.numbers }
  pub head : head_at z s.a ≡ head_of (inner_shape m.pattern d.steps.map d.steps.mesh.pattern.rows)
  pub wordsend : words_end z s.a ≡ p.positions + p.entries
  pub floatsend : floats_end z s.a s.b ≡ p.factor
  pub next : mesh_at z G given (next_in t d.steps.mesh.pattern.rows (entries d.next.pattern)) ≡ next_of d
  pub rows : d.next.pattern.rows ≡ d.steps.mesh.pattern.rows
  pub proper : Proper d.next.pattern
  pub fewer : d.steps.mesh.pattern.rows ≤ p.rows
  pub less : entries d.next.pattern ≤ p.entries
  pub stage : d.steps.stage ≤ s.stage + 4

-- What the descent ensures: the definition's answer, and where it accepts, what was said above. Below the level nothing changed.
pub record Descended (w z : List ℕ) (F G : List Float) (o : MultigridOptions) (given : Bool) (t : Workspace) (s : Frontier) (p : Place) (count : ℕ) (r : Result Merging Refusal) : Type 0 where
  pub answer : r ≡ descending_of (descent_at o given w F t s p count)
  pub arrived : (d : Descent) → descent_at o given w F t s p count ≡ accepted d → Arrived z G given t s p (mesh_at w F given (level_in t p)) d
  pub words : Kept s.a w z
  pub floats : Kept s.b F G
