-- The loop of `over`: a turn, and what the loop leaves.
-- Assumes nothing.
use mathlib.Core.Path.{ap, ◌∙◌}
use mathlib.Core.List.{List}
use Prim.Native.Nat.{ℕ, ◌+◌, ◌≤◌}
use native.Mathlib.Omega.{arith}
use lib.Ieee.{Float, nan}
use lib.ListN.{length, set}
use Rattle.float.specs.Float.{div64}
use Rattle.store.specs.Loop.{for}
use Rattle.store.specs.Region.{at, part, splice, Wrote}
use Rattle.store.proofs.store.Loop.{Left, left_end}
use Rattle.store.proofs.store.Region.{get_d_part, wrote}
use Rattle.store.proofs.store.Vector.{length_tab, tab_same, for_each}
use Rattle.acceleration.specs.DirectionsContract.{AxpyOk}
use Rattle.acceleration.specs.Normal.{over_of}

-- a turn of `over`
unfoldable pub over_turn : Float → ℕ → ℕ → ℕ → List Float → List Float
over_turn a x y k F = set F (y + k) (div64 (at F (x + k)) a)

module _ (a : Float) {F G : List Float} {n x y k : ℕ} (ok : AxpyOk (length F) n x y) where
  -- The loop of `over` leaves x / a.
  pub over_done : Left (over_turn a x y) k n G (for (over_turn a x y) 0 n F) → n ≤ k
      → Wrote y n (over_of n a (part x n F)) F G
  unfolding over_of over_turn
  over_done l h =
      wrote (left_end l h
      ∙ for_each y n F (λ k G. div64 (at G (x + k)) a) (λ k b G same. rw (same (x + k) nan (omega arith)))
      ∙ ap (λ (v : List Float). splice y v F) (tab_same _ _ n (λ k b. simp get_d_part))) (length_tab _ n)
