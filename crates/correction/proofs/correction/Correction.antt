-- The loops of `subtract` and `add_plain`: a turn, and what the loop leaves. Assumes nothing.
use mathlib.Core.Path.{ap, ◌∙◌}
use mathlib.Core.List.{List}
use Prim.Native.Nat.{ℕ, ◌+◌, ◌≤◌, ◌<◌}
use native.Mathlib.Omega.{arith}
use lib.ListN.{length, set}
use lib.Ieee.{Float, nan}
use Rattle.float.specs.Float.{add64, sub64}
use Rattle.store.specs.Loop.{for}
use Rattle.store.specs.Region.{at, part, splice, Clear, Wrote, CopyOk}
use Rattle.store.proofs.store.Loop.{Left, left_end}
use Rattle.store.proofs.store.Region.{get_d_part, wrote}
use Rattle.store.proofs.store.Vector.{length_tab, tab_same, for_each}
use Rattle.correction.specs.Correction.{subtract_of, add_plain_of, SubtractOk}

-- a turn of `subtract`, of the store
unfoldable pub subtract_step : ℕ → ℕ → ℕ → ℕ → List Float → List Float
subtract_step rhs product out row F = set F (out + row) (sub64 (at F (rhs + row)) (at F (product + row)))

-- a turn of `add_plain`, of the store
unfoldable pub plain_step : ℕ → ℕ → ℕ → List Float → List Float
plain_step correction x row F = set F (x + row) (add64 (at F (x + row)) (at F (correction + row)))

-- An element of a region that is clear of x is not one that earlier turns have written.
pub clear_off : (a x n row : ℕ) → Clear a n x n → row < n → x ≤ a + row → x + row ≤ a + row
clear_off a x n row c b p = omega arith

-- `subtract` writes the differences.
pub subtract_done : {F G : List Float} {n rhs product out row : ℕ} → SubtractOk (length F) n rhs product out
    → Left (subtract_step rhs product out) row n G (for (subtract_step rhs product out) 0 n F) → n ≤ row
    → Wrote out n (subtract_of n (part rhs n F) (part product n F)) F G
unfolding subtract_of subtract_step
subtract_done {F} {G} {n} {rhs} {product} {out} ok l h =
    let freeRhs = ok.clear_rhs in
    let freeProduct = ok.clear_product in
    wrote (left_end l h
    ∙ for_each out n F (λ row H. sub64 (at H (rhs + row)) (at H (product + row)))
    (λ row b H same. rw (same (rhs + row) nan (clear_off rhs out n row freeRhs b), same (product + row) nan (clear_off product out n row freeProduct b)))
    ∙ ap (λ (v : List Float). splice out v F) (tab_same _ _ n (λ row b. simp get_d_part))) (length_tab _ n)

-- `add_plain` writes the corrections, added.
pub plain_done : {F G : List Float} {n correction x row : ℕ} → CopyOk (length F) n correction x
    → Left (plain_step correction x) row n G (for (plain_step correction x) 0 n F) → n ≤ row
    → Wrote x n (add_plain_of n (part correction n F) (part x n F)) F G
unfolding add_plain_of plain_step
plain_done {F} {G} {n} {correction} {x} ok l h =
    let free = ok.clear in
    wrote (left_end l h
    ∙ for_each x n F (λ row H. add64 (at H (x + row)) (at H (correction + row)))
    (λ row b H same. rw (same (x + row) nan (λ p. omega arith), same (correction + row) nan (clear_off correction x n row free b)))
    ∙ ap (λ (v : List Float). splice x v F) (tab_same _ _ n (λ row b. simp get_d_part))) (length_tab _ n)
