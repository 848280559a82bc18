-- Copies between the store and the caller's vectors: what they require and ensure. Definitions only.
use Rattle.std.specs.Prelude.{◌≡◌, List, ℕ, ◌+◌, ◌≤◌, length, Float}
use Rattle.store.specs.Region.{part, Kept}

-- Vectors of those lengths fit at their places, the first before the second.
pub record EnterOk (size rhs x to start : ℕ) : Type 0 where
  pub given : to + rhs ≤ start
  pub room : start + x ≤ size

-- The vectors stand at their places; below them nothing changed.
pub record Entered (F G : List Float) (rhs x : List Float) (to start : ℕ) : Type 0 where
  pub given : part to (length rhs) G ≡ rhs
  pub solution : part start (length x) G ≡ x
  pub floats : Kept to F G
