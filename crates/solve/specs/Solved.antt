-- A solve of the hierarchy in the stores, and what it leaves of the solution. Definitions only.
use Rattle.std.specs.Prelude.{List, ℕ, Float}
use Rattle.options.specs.declared.options.Handle.{Handle}
use Rattle.solver.specs.declared.solver.LinearSolverOptions.{LinearSolverOptions}
use Rattle.refusal.specs.Outcome.{Outcome, accepted, refused}
use Rattle.iterations.specs.System.{system_at}
use Rattle.iterations.specs.Iterate.{Solution}
use Rattle.solve.specs.Solve.{solve_of}

-- the solve in stores that pass question 19
abbrev pub solved_at : Handle → List ℕ → List Float → List Float → List Float → LinearSolverOptions → Outcome Solution
solved_at h w F rhs x s = solve_of (system_at h w F) s rhs x

-- the solution: as it was where the solve is refused
abbrev pub solution_of : List Float → Outcome Solution → List Float
solution_of x (accepted v) = v.x
solution_of x (refused q) = x
