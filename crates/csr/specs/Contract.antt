-- What a matrix has where its questions passed. Definitions only.
use Rattle.std.specs.Prelude.{◌≡◌, List, ℕ, ◌+◌, ◌≤◌, ◌<◌, length, Float}
use Rattle.store.specs.Region.{idx}
use Rattle.pattern.specs.Pattern.{Pattern}

-- the pattern that is lent
abbrev pub pattern_of : ℕ → List ℕ → List ℕ → Pattern
pattern_of rows offsets columns = record { rows = rows; offsets = offsets; columns = columns }

-- What a matrix that passed has: few enough rows and entries, and a value for each entry.
pub record Sizes (rows : ℕ) (columns : List ℕ) (values : List Float) : Type 0 where
  pub few : rows ≤ 65536
  pub short : length columns ≤ 1048576
  pub counted : length values ≡ length columns

-- What the walk over the rows asks of the offsets, once question 2 has passed: each row lies among the entries.
pub record Rowed (rows : ℕ) (offsets columns : List ℕ) : Type 0 where
  pub size : length offsets ≡ rows + 1
  pub starts : (r : ℕ) → r < rows → idx offsets r ≤ idx offsets (r + 1)
  pub ends : (r : ℕ) → r < rows → idx offsets (r + 1) ≤ length columns
