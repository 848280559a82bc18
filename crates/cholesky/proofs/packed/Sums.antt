-- The end of the loop of `less`.
-- Assumes nothing.
use mathlib.Core.List.{List}
use Prim.Native.Nat.{ℕ, ◌≤◌}
use lib.Ieee.{Float}
use Rattle.store.specs.Loop.{for}
use Rattle.store.proofs.store.Loop.{Left, left_end}
use Rattle.cholesky.specs.TriangleContract.{Less}
use Rattle.cholesky.specs.Turns.{less_of}

-- The loop of `less`.
pub less_done : {F : List Float} {p q m k : ℕ} {own r : Float} → Left (less_of F p q) k m r (for (less_of F p q) 0 m own) → m ≤ k
    → Less F p q m own r
less_done l h = record { is = left_end l h }
