-- What a correction requires and ensures. Definitions only.
use Rattle.std.specs.Prelude.{◌≡◌, cond, List, ℕ, ◌+◌, ◌*◌, ◌≤◌, ◌<◌, eqb, Float, length, Result, Ok, Err}
use Rattle.refusal.specs.declared.Refusal.{Refusal}
use Rattle.refusal.specs.Outcome.{Outcome, accepted, refused}
use Rattle.store.specs.Region.{part, Clear}
use Rattle.acceleration.specs.DirectionsContract.{memory_at}
use Rattle.acceleration.specs.Gcr.{Corrections}

-- r pairs stay of `used`: none where the memory is full
pub record Restarted (krylov used r : ℕ) : Type 0 where
  pub is : r ≡ cond (eqb used krylov) 0 used
  pub below : r < krylov

-- solution, memory of `krylov` pairs, residual, new direction and its image, in this order
pub record CorrectOk (size n krylov used solution directions images residual direction image : ℕ) : Type 0 where
  pub some : 0 < krylov
  pub fits : used ≤ krylov
  pub solutions : solution + n ≤ directions
  pub first : directions + krylov * n ≤ images
  pub second : images + krylov * n ≤ residual
  pub residuals : residual + n ≤ direction
  pub pairs : direction + n ≤ image
  pub within : image + n ≤ size

-- the answer to an outcome: how many pairs are stored now
abbrev pub corrected_of : Outcome Corrections → Result ℕ Refusal
corrected_of (accepted s) = Ok (length s.memory)
corrected_of (refused q) = Err q

-- The answer is the outcome's, and the memory has room for the pairs that it counts. Where it is accepted, its solution
-- and memory stand in G; where it is refused, the solution is as it was. Memory, new direction and image apart, nothing
-- else has changed.
pub record CorrectedBy (n krylov solution directions images direction image : ℕ) (outcome : Outcome Corrections)
    (F G : List Float) (r : Result ℕ Refusal) : Type 0 where
  pub answer : r ≡ corrected_of outcome
  pub fits : (used : ℕ) → r ≡ Ok used → used ≤ krylov
  pub solved : (s : Corrections) → outcome ≡ accepted s → part solution n G ≡ s.solution
  pub stored : (s : Corrections) → outcome ≡ accepted s → memory_at (length s.memory) n directions images G ≡ s.memory
  pub still : (q : Refusal) → outcome ≡ refused q → part solution n G ≡ part solution n F
  pub below : (a m : ℕ) → Clear a m solution n → a + m ≤ directions → part a m G ≡ part a m F
  pub between : (a m : ℕ) → images + krylov * n ≤ a → a + m ≤ direction → part a m G ≡ part a m F
  pub above : (a m : ℕ) → image + n ≤ a → part a m G ≡ part a m F
  pub size : length G ≡ length F
