-- Two passes over the stored pairs.
-- Assumes nothing.
use Rattle.std.specs.Prelude.{Result, Ok, Err}
use mathlib.Core.Path.{◌≡◌}
use mathlib.Core.List.{List}
use Prim.Native.Nat.{ℕ, ◌+◌, ◌≤◌}
use native.Mathlib.Omega.{arith}
use lib.Ieee.{Float}
use lib.ListN.{length}
use Rattle.refusal.specs.declared.Refusal.{Refusal}
use Rattle.refusal.specs.Outcome.{accepted, refused}
use Rattle.store.specs.Region.{part}
use Rattle.acceleration.specs.Directions.{pass_of}
use Rattle.acceleration.specs.DirectionsContract.{pair_at, memory_at, Stepped, PassOk}
use Rattle.acceleration.proofs.directions.Passes.{between_on, memory_same}
use Rattle.acceleration.specs.Gcr.{twice_of}

module _ {F G : List Float} {n used p q direction image : ℕ} {r : Result Unit Refusal} (ok : PassOk (length F) n used p q direction image)
    (d : Stepped n direction image (pass_of n (memory_at used n p q F) (pair_at n direction image F)) F G r) where
  -- Both passes made: the answer is the second's.
  pub twice_yes : {H : List Float} {s : Result Unit Refusal} → r ≡ Ok tt
      → Stepped n direction image (pass_of n (memory_at used n p q G) (pair_at n direction image G)) G H s
      → Stepped n direction image (twice_of n (memory_at used n p q F) (pair_at n direction image F)) F H s
  unfolding twice_of
  twice_yes t c =
      let e : accepted (pair_at n direction image G) ≡ pass_of n (memory_at used n p q F) (pair_at n direction image F) = rw t at d.is in
      let below : (a m : ℕ) → a + m ≤ direction → part a m G ≡ part a m F = d.frame.below in
      let m = memory_same used n p q F G (λ a m _ u. below a m (omega arith)) (λ a m _ u. below a m (omega arith)) in
      record { is = rw (← e, ← m) c.is; frame = between_on d.frame c.frame }

  -- The first pass refused.
  pub twice_no : {reason : Refusal} → r ≡ Err reason → Stepped n direction image (twice_of n (memory_at used n p q F) (pair_at n direction image F)) F G (Err reason)
  unfolding twice_of
  twice_no {reason} t =
      let e : refused reason ≡ pass_of n (memory_at used n p q F) (pair_at n direction image F) = rw t at d.is in
      record { is = rw (← e); frame = d.frame }
