-- The terminal solve: the turns of the loops, by the names that proofs have for them. Definitions only.
use Rattle.std.specs.Prelude.{List, ℕ, Float, set}
use Rattle.float.specs.Float.{mul64}
use Rattle.store.specs.Loop.{for}
use Rattle.store.specs.Region.{at, idx}
use Rattle.store.specs.Vector.{tab}

-- `x[row] = rhs[row] * inverse[row]`: what a row without connections needs
unfoldable pub diagonal_of : ℕ → List Float → List Float → List Float
diagonal_of n inverse rhs = tab (λ row. mul64 (at rhs row) (at inverse row)) n

-- the right-hand side of the coupled rows
unfoldable pub gather_of : ℕ → List ℕ → List Float → List Float
gather_of size coupled rhs = tab (λ k. at rhs (idx coupled k)) size

-- the compact solution, put where the coupled rows are
unfoldable pub scatter_of : ℕ → List ℕ → List Float → List Float → List Float
scatter_of size coupled u x = for (λ k x. set x (idx coupled k) (at u k)) 0 size x
