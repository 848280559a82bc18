-- What the levels of an accepted build are, one after the other, and the floats that they were charged. Definitions only.
use Rattle.std.specs.Prelude.{◌≡◌, List, [], ◌∷◌, ℕ, ◌+◌, ◌*◌, ◌≤◌}
use Rattle.pattern.specs.Pattern.{Pattern, entries, coarse, Maps}
use Rattle.faces.specs.Faces.{coupled_count_of}
use Rattle.hierarchy.specs.Level.{Level}
use Rattle.hierarchy.specs.Build.{last_shape, inner_shape}
use Rattle.hierarchy.specs.Proper.{Proper}

-- A proper pattern of so few rows and entries that question 1 passes it.
pub record Small (p : Pattern) : Type 0 where
  pub proper : Proper p
  pub few : p.rows ≤ 65536
  pub short : entries p ≤ 1048576

-- The levels from a matrix of pattern p on, the coupled rows of the last being at most so many: a last level of that pattern, or a
-- level whose aggregates make the pattern of the next, and the levels from there.
pub data Laid (most : ℕ) : Pattern → List Level → Type 0 where
  last : {p : Pattern} {l : Level} → Small p → coupled_count_of p ≤ most → l.shape ≡ last_shape p → Laid most p (l ∷ [])
  inner : {p : Pattern} {l : Level} {rest : List Level} {map : List ℕ} {count : ℕ} → Small p → Maps map p.rows count
      → l.shape ≡ inner_shape p map count → Laid most (coarse p map count) rest → Laid most p (l ∷ rest)

-- the floats that question 9 charges for the levels
unfoldable pub charges_of : List Level → ℕ
charges_of [] = 0
charges_of (l ∷ rest) = 20 * l.shape.pattern.rows + 4 * entries l.shape.pattern + charges_of rest
