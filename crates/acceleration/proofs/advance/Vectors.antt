-- The loop of `more`: a turn, and what the loop leaves.
-- Assumes nothing.
use mathlib.Core.Path.{ap, ◌∙◌}
use mathlib.Core.List.{List}
use Prim.Native.Nat.{ℕ, ◌+◌, ◌≤◌}
use native.Mathlib.Omega.{arith}
use lib.Ieee.{Float, nan}
use lib.ListN.{length, set}
use Rattle.float.specs.Float.{add64, mul64}
use Rattle.store.specs.Loop.{for}
use Rattle.store.specs.Region.{at, part, splice, Wrote}
use Rattle.store.proofs.store.Loop.{Left, left_end}
use Rattle.store.proofs.store.Region.{get_d_part, wrote}
use Rattle.store.proofs.store.Vector.{length_tab, tab_same, for_each}
use Rattle.acceleration.specs.DirectionsContract.{AxpyOk}
use Rattle.acceleration.specs.Turns.{more_of}

-- a turn of `more`
unfoldable pub more_turn : Float → ℕ → ℕ → ℕ → List Float → List Float
more_turn a x y k F = set F (y + k) (add64 (at F (y + k)) (mul64 a (at F (x + k))))

module _ (a : Float) {F G : List Float} {n x y k : ℕ} (ok : AxpyOk (length F) n x y) where
  -- The loop of `more` leaves y + a x.
  pub more_done : Left (more_turn a x y) k n G (for (more_turn a x y) 0 n F) → n ≤ k
      → Wrote y n (more_of n a (part x n F) (part y n F)) F G
  unfolding more_of more_turn
  more_done l h =
      wrote (left_end l h
      ∙ for_each y n F (λ k G. add64 (at G (y + k)) (mul64 a (at G (x + k))))
      (λ k b G same. rw (same (y + k) nan (omega arith), same (x + k) nan (omega arith)))
      ∙ ap (λ (v : List Float). splice y v F) (tab_same _ _ n (λ k b. simp get_d_part))) (length_tab _ n)
