-- What `normalize` requires and ensures. Definitions only.
use Rattle.refusal.specs.declared.Refusal.{Refusal}
use Rattle.std.specs.Prelude.{◌≡◌, List, ℕ, ◌+◌, ◌≤◌, Float, length, Result, Ok}
use Rattle.refusal.specs.Outcome.{Outcome, accepted, verdict_of}
use Rattle.store.specs.Region.{part, Clear}
use Rattle.acceleration.specs.Directions.{Pair}
use Rattle.acceleration.specs.DirectionsContract.{pair_at}

-- the place of the pair to store, below the new one
pub record NormalOk (size n p q direction image : ℕ) : Type 0 where
  pub ps : p + n ≤ q
  pub qs : q + n ≤ direction
  pub directions : direction + n ≤ image
  pub images : image + n ≤ size

-- the verdict and, where it passed, the pair at p and q; nothing else has changed
pub record Normal (n p q : ℕ) (outcome : Outcome Pair) (F G : List Float) (v : Result Unit Refusal) : Type 0 where
  pub answer : v ≡ verdict_of outcome
  pub pair : v ≡ Ok tt → outcome ≡ accepted (pair_at n p q G)
  pub off : (a m : ℕ) → Clear a m p n → Clear a m q n → part a m G ≡ part a m F
  pub size : length G ≡ length F
