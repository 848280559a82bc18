-- The loop of `lessen`: a turn, and what the loop leaves.
-- Assumes nothing.
use mathlib.Core.Path.{ap, ◌∙◌}
use mathlib.Core.List.{List}
use Prim.Native.Nat.{ℕ, ◌+◌, ◌≤◌}
use native.Mathlib.Omega.{arith}
use lib.Ieee.{Float, nan}
use lib.ListN.{length, set}
use Rattle.float.specs.Float.{sub64, mul64}
use Rattle.store.specs.Loop.{for}
use Rattle.store.specs.Region.{at, part, splice, Wrote}
use Rattle.store.proofs.store.Loop.{Left, left_end}
use Rattle.store.proofs.store.Region.{get_d_part, wrote}
use Rattle.store.proofs.store.Vector.{length_tab, tab_same, for_each}
use Rattle.acceleration.specs.Directions.{less_of}
use Rattle.acceleration.specs.DirectionsContract.{AxpyOk}

-- a turn of `lessen`
unfoldable pub less_turn : Float → ℕ → ℕ → ℕ → List Float → List Float
less_turn a x y k F = set F (y + k) (sub64 (at F (y + k)) (mul64 a (at F (x + k))))

module _ (a : Float) {F G : List Float} {n x y k : ℕ} (ok : AxpyOk (length F) n x y) where
  -- The loop of `lessen` leaves y - a x.
  pub less_done : Left (less_turn a x y) k n G (for (less_turn a x y) 0 n F) → n ≤ k
      → Wrote y n (less_of n a (part x n F) (part y n F)) F G
  unfolding less_of less_turn
  less_done l h =
      wrote (left_end l h
      ∙ for_each y n F (λ k G. sub64 (at G (y + k)) (mul64 a (at G (x + k))))
      (λ k b G same. rw (same (y + k) nan (omega arith), same (x + k) nan (omega arith)))
      ∙ ap (λ (v : List Float). splice y v F) (tab_same _ _ n (λ k b. simp get_d_part))) (length_tab _ n)
