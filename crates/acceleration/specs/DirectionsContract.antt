-- The memory as regions of the store, and what the functions require and ensure. Definitions only.
use Rattle.std.specs.Prelude.{◌≡◌, List, [], ◌∷◌, ℕ, zero, suc, ◌+◌, ◌*◌, ◌≤◌, Float, length, Result, Ok, Err}
use Rattle.refusal.specs.declared.Refusal.{Refusal}
use Rattle.refusal.specs.Outcome.{Outcome, accepted, refused}
use Rattle.store.specs.Region.{part, Clear}
use Rattle.acceleration.specs.Directions.{Pair}

-- the direction at p and the image at q
abbrev pub pair_at : ℕ → ℕ → ℕ → List Float → Pair
pair_at n p q F = record { direction = part p n F; image = part q n F }

-- k pairs: their directions one after another from p on, their images from q on
unfoldable pub memory_at : ℕ → ℕ → ℕ → ℕ → List Float → List Pair
memory_at zero n p q F = []
memory_at (suc k) n p q F = pair_at n p q F ∷ memory_at k n (p + n) (q + n) F

-- of F became G, and only between lo and hi
pub record Between (lo hi : ℕ) (F G : List Float) : Type 0 where
  pub below : (a m : ℕ) → a + m ≤ lo → part a m G ≡ part a m F
  pub above : (a m : ℕ) → hi ≤ a → part a m G ≡ part a m F
  pub size : length G ≡ length F

-- a stored pair below the new one
pub record StepOk (size n p q direction image : ℕ) : Type 0 where
  pub ps : p + n ≤ direction
  pub qs : q + n ≤ direction
  pub directions : direction + n ≤ image
  pub images : image + n ≤ size

-- what a verdict tells of what was made: it is accepted, or refused with the verdict's refusal
abbrev pub made_of : {A : Type 0} → Result Unit Refusal → A → Outcome A
made_of (Ok tt) a = accepted a
made_of (Err q) a = refused q

-- r is the verdict of `outcome`, with the new pair left in G; nothing else has changed
pub record Stepped (n direction image : ℕ) (outcome : Outcome Pair) (F G : List Float) (r : Result Unit Refusal) : Type 0 where
  pub is : made_of r (pair_at n direction image G) ≡ outcome
  pub frame : Between direction (image + n) F G

-- `used` stored pairs below the new one
pub record PassOk (size n used p q direction image : ℕ) : Type 0 where
  pub ps : p + used * n ≤ direction
  pub qs : q + used * n ≤ direction
  pub directions : direction + n ≤ image
  pub images : image + n ≤ size

-- n elements at x and n at y, which lie one above the other
pub record AxpyOk (size n x y : ℕ) : Type 0 where
  pub xs : x + n ≤ size
  pub ys : y + n ≤ size
  pub clear : Clear x n y n
