-- The levels of a build from its frontier on: what `grow` ensures. Definitions only.
use Rattle.std.specs.Prelude.{Bool, List, ℕ, length, Float, Result}
use Rattle.options.specs.declared.options.MultigridOptions.{MultigridOptions}
use Rattle.refusal.specs.declared.Refusal.{Refusal}
use Rattle.refusal.specs.Outcome.{Outcome}
use Rattle.hierarchy.specs.Level.{Level}
use Rattle.hierarchy.specs.Build.{charge, grow_of}
use Rattle.coarsening.specs.declared.coarsen.Workspace.{Workspace}
use Rattle.build_level.specs.declared.laying.Frontier.{Frontier}
use Rattle.build_level.specs.LayingContract.{frontier_at}
use Rattle.build_level.specs.declared.coarsest.Growth.{Growth}
use Rattle.build_level.specs.CoarsestContract.{Levels}

-- the levels from the frontier on
abbrev pub grow_at : MultigridOptions → Bool → List ℕ → List Float → Workspace → Frontier → Outcome (List Level)
grow_at o given w F t s =
    grow_of o given (charge (length w) (length F)) s.more s.level s.stage (charge s.words s.floats) (frontier_at w F given t s)

-- What `grow` ensures.
pub record Grown (w z : List ℕ) (F G : List Float) (o : MultigridOptions) (given : Bool) (t : Workspace) (s : Frontier) (r : Result Growth Refusal) : Type 0 where
  pub levels : Levels w z F G t s.level s.a s.b (grow_at o given w F t s) r
