-- The loop of `add_scaled`: a turn, and what the loop leaves. Assumes nothing.
use mathlib.Core.Path.{ap, ◌∙◌}
use mathlib.Core.List.{List}
use Prim.Native.Nat.{ℕ, ◌+◌, ◌≤◌}
use native.Mathlib.Omega.{arith}
use lib.ListN.{length, set}
use lib.Ieee.{Float, nan}
use Rattle.float.specs.Float.{add64, sub64, mul64}
use Rattle.store.specs.Loop.{for}
use Rattle.store.specs.Region.{at, part, splice, Wrote}
use Rattle.store.proofs.store.Loop.{Left, left_end}
use Rattle.store.proofs.store.Region.{get_d_part, wrote}
use Rattle.store.proofs.store.Vector.{length_tab, tab_same, for_each}
use Rattle.correction.proofs.correction.Correction.{clear_off}
use Rattle.correction.specs.Scaled.{add_scaled_of, ScaledOk}

-- what a turn of `add_scaled` writes
unfoldable pub scaled_at : Float → ℕ → ℕ → ℕ → ℕ → ℕ → ℕ → List Float → Float
scaled_at factor correction residual product inverse x row F =
    add64 (at F (x + row)) (add64 (mul64 factor (at F (correction + row)))
    (mul64 (sub64 (at F (residual + row)) (mul64 factor (at F (product + row)))) (at F (inverse + row))))

-- a turn of `add_scaled`, of the store
unfoldable pub scaled_step : Float → ℕ → ℕ → ℕ → ℕ → ℕ → ℕ → List Float → List Float
scaled_step factor correction residual product inverse x row F =
    set F (x + row) (scaled_at factor correction residual product inverse x row F)

-- `add_scaled` writes the scaled corrections with their Jacobi steps.
pub scaled_done : {F G : List Float} {n correction residual product inverse x row : ℕ} (factor : Float)
    → ScaledOk (length F) n correction residual product inverse x
    → Left (scaled_step factor correction residual product inverse x) row n G
    (for (scaled_step factor correction residual product inverse x) 0 n F) → n ≤ row
    → Wrote x n (add_scaled_of n factor (part correction n F) (part residual n F) (part product n F) (part inverse n F) (part x n F)) F G
unfolding add_scaled_of scaled_step scaled_at
scaled_done {F} {G} {n} {correction} {residual} {product} {inverse} {x} factor ok l h =
    let i : inverse + n ≤ x = ok.inverses in
    let j : x + n ≤ correction = ok.xs in
    let k : correction + n ≤ product = ok.corrections in
    let free = ok.clear in
    wrote (left_end l h
    ∙ for_each x n F (scaled_at factor correction residual product inverse x)
    (λ row b H same. rw (
      same (x + row) nan (λ p. omega arith),
      same (correction + row) nan (λ p. omega arith),
      same (residual + row) nan (clear_off residual x n row free b),
      same (product + row) nan (λ p. omega arith),
      same (inverse + row) nan (λ p. omega arith),
    ))
    ∙ ap (λ (v : List Float). splice x v F) (tab_same _ _ n (λ row b. simp get_d_part))) (length_tab _ n)
