-- The loop of `all_finite` as the code has it.
-- Assumes nothing.
use mathlib.Core.Path.{◌≡◌, ◌∙◌}
use mathlib.Core.Bool.{Bool, true, ◌&&◌}
use mathlib.Core.List.{List}
use Prim.Native.Nat.{ℕ, ◌+◌, ◌≤◌, ◌<◌}
use lib.Ieee.{Float}
use Rattle.float.specs.Float.{is_finite}
use Rattle.store.specs.Region.{at, part}
use Rattle.store.specs.Vector.{each}
use Rattle.store.proofs.store.Region.{get_d_part}
use Rattle.store.proofs.store.Each.{Tested, each_same, tested_start, tested_on, tested_done}
use Rattle.vector.specs.Finite.{all_finite}

-- An element of the store is one of the region's.
finite_part : (F : List Float) (x n : ℕ) → each (λ k. is_finite (at F (x + k))) n ≡ all_finite n (part x n F)
unfolding all_finite
finite_part F x n = each_same _ _ n (λ k h. simp get_d_part)

-- The invariant of `all_finite`: ok tells whether the first k of the n elements at x are finite.
pub record Finites (F : List Float) (x n k : ℕ) (ok : Bool) : Type 0 where
  pub tested : Tested (λ i. is_finite (at F (x + i))) n k ok

pub finites_start : (F : List Float) (x n : ℕ) → Finites F x n 0 true
finites_start F x n = record { tested = tested_start _ n }

pub finites_on : {F : List Float} {x n k : ℕ} {ok r : Bool} → Finites F x n k ok → k < n → r ≡ is_finite (at F (x + k)) → Finites F x n (k + 1) (ok && r)
finites_on t h e = record { tested = tested_on t.tested h e }

-- It ends with the definition's answer.
pub finites_done : {F : List Float} {x n k : ℕ} {ok : Bool} → Finites F x n k ok → n ≤ k → ok ≡ all_finite n (part x n F)
finites_done {F} {x} {n} t h = tested_done t.tested h ∙ finite_part F x n
