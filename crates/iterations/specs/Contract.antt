-- The iterations on vectors in the store: what they require and ensure. Definitions only.
use Rattle.solver.specs.declared.solver.LinearSolveReport.{LinearSolveReport}
use Rattle.refusal.specs.declared.Refusal.{Refusal}
use Rattle.std.specs.Prelude.{◌≡◌, List, ℕ, ◌-◌, ◌≤◌, Float, Result}
use Rattle.store.specs.Region.{part, Kept}
use Rattle.options.specs.declared.options.Handle.{Handle}
use Rattle.refusal.specs.Outcome.{Outcome, accepted}
use Rattle.iterations.specs.declared.stepping.Regions.{Regions}
use Rattle.iterations.specs.System.{system_at}
use Rattle.iterations.specs.Steps.{state_at}
use Rattle.iterations.specs.Iterate.{Solution, answer_of, iterate_of}

-- The answer is that of `out`; accepted, its solution stands in G and its counters are u. Below the solution nothing changed.
pub record Ran (g : Regions) (out : Outcome Solution) (F G : List Float) (u : List ℕ) (r : Result LinearSolveReport Refusal) : Type 0 where
  pub answer : r ≡ answer_of out
  pub solved : (v : Solution) → out ≡ accepted v → part g.solution g.rows G ≡ v.x
  pub counted : (v : Solution) → out ≡ accepted v → u ≡ v.counts
  pub floats : Kept g.solution F G

-- the iterations from the state in the stores, with nothing stored yet
abbrev pub iterate_at : Handle → List ℕ → List Float → List ℕ → Regions → Float → Float → Float → ℕ → Outcome Solution
iterate_at h w F t g factor initial threshold limit =
    iterate_of (system_at h w F) (part g.rhs g.rows F) factor initial threshold limit 0 (state_at g 0 F t initial)

-- Where they stand after `done`: what is left of them gives the whole.
pub record Iterating (h : Handle) (w : List ℕ) (F G : List Float) (t u : List ℕ) (g : Regions) (factor initial threshold : Float)
    (limit used : ℕ) (last : Float) (done : ℕ) : Type 0 where
  pub gives : iterate_of (system_at h w F) (part g.rhs g.rows F) factor initial threshold (limit - done) done (state_at g used G u last)
      ≡ iterate_at h w F t g factor initial threshold limit
  pub fits : used ≤ h.options.krylov_dimension
  pub within : done ≤ limit
  pub floats : Kept g.solution F G
