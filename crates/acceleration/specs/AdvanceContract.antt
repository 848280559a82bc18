-- What `advance` requires and ensures. Definitions only.
use Rattle.std.specs.Prelude.{◌≡◌, List, ℕ, ◌+◌, ◌≤◌, Float, length, Result, Err}
use Rattle.refusal.specs.declared.Refusal.{Refusal}
use Rattle.refusal.specs.Outcome.{Outcome}
use Rattle.store.specs.Region.{part, Clear}
use Rattle.acceleration.specs.DirectionsContract.{made_of}

-- the solution below the pair at p and q, and the residual above it
pub record AdvanceOk (size n solution p q residual : ℕ) : Type 0 where
  pub solutions : solution + n ≤ p
  pub ps : p + n ≤ q
  pub qs : q + n ≤ residual
  pub residuals : residual + n ≤ size

-- r is the verdict of `outcome`, with the solution left in G; nothing else has changed
pub record Advanced (n solution : ℕ) (outcome : Outcome (List Float)) (F G : List Float) (r : Result Unit Refusal) : Type 0 where
  pub is : made_of r (part solution n G) ≡ outcome
  pub still : (q : Refusal) → r ≡ Err q → part solution n G ≡ part solution n F
  pub off : (a m : ℕ) → Clear a m solution n → part a m G ≡ part a m F
  pub size : length G ≡ length F
