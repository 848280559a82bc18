-- How many levels there are, and that the last is the terminal one; what it is that stores are larger. Definitions only.
use Rattle.std.specs.Prelude.{◌≡◌, true, false, List, [], ◌∷◌, ℕ, ◌≤◌, length}
use Rattle.pattern.specs.Pattern.{Pattern}
use Rattle.hierarchy.specs.Level.{Level}
use Rattle.hierarchy.specs.Build.{Charge, Lent}

-- There is a last level, which is terminal, and no other is.
pub data Ending : List Level → Type 0 where
  last : {l : Level} → l.shape.terminal ≡ true → Ending (l ∷ [])
  inner : {l : Level} {rest : List Level} → l.shape.terminal ≡ false → Ending rest → Ending (l ∷ rest)

-- The levels of a matrix of pattern p: at least one and at most so many, the first with that pattern, the last alone terminal.
pub record Deep (most : ℕ) (p : Pattern) (levels : List Level) : Type 0 where
  pub some : 1 ≤ length levels
  pub few : length levels ≤ most
  pub first : (l : Level) (rest : List Level) → levels ≡ l ∷ rest → l.shape.pattern ≡ p
  pub ending : Ending levels

-- Stores at least as large.
pub record Larger (stores bigger : Charge) : Type 0 where
  pub words : stores.words ≤ bigger.words
  pub floats : stores.floats ≤ bigger.floats

-- At least as much is lent.
pub record LargerLent (l bigger : Lent) : Type 0 where
  pub stores : Larger l.stores bigger.stores
  pub records : l.records ≤ bigger.records
