-- The terminal level's solve: cycle.rs with `solve` of coarse.rs. Definitions only.
use Rattle.std.specs.Prelude.{List, ℕ, Float, set}
use Rattle.float.specs.Float.{mul64}
use Rattle.refusal.specs.Refusal.{bad_coarse_solution}
use Rattle.refusal.specs.Outcome.{Outcome, accepted, ask}
use Rattle.store.specs.Loop.{for}
use Rattle.store.specs.Region.{at, idx}
use Rattle.store.specs.Vector.{tab}
use Rattle.vector.specs.Finite.{all_finite}
use Rattle.cholesky.specs.TriangularFactor.{solve_factor_of}

-- the terminal level's x: all rows by their diagonal, the coupled ones anew by the factor
unfoldable pub terminal_solution : ℕ → List Float → ℕ → List ℕ → List Float → List Float → List Float
terminal_solution n inverse size coupled factor rhs =
    let u = solve_factor_of size factor (tab (λ k. at rhs (idx coupled k)) size) in
    for (λ k x. set x (idx coupled k) (at u k)) 0 size (tab (λ row. mul64 (at rhs row) (at inverse row)) n)

-- the terminal solve, with question 24 over all of x
unfoldable pub terminal_of : ℕ → List Float → ℕ → List ℕ → List Float → List Float → Outcome (List Float)
terminal_of n inverse size coupled factor rhs =
    let x = terminal_solution n inverse size coupled factor rhs in
    ask (all_finite n x) bad_coarse_solution (accepted x)
