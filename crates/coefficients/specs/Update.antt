-- `update` of matrix.rs: the matrix's own values, taken from an image's entries, with questions 12 and 13. Definitions only.
use Rattle.std.specs.Prelude.{List, ℕ, length, Float}
use Rattle.float.specs.Float.{div64, one64, is_finite, is_positive}
use Rattle.refusal.specs.Refusal.{bad_diagonal, bad_reciprocal}
use Rattle.refusal.specs.Outcome.{Outcome, accepted, passed, ask, ◌>>◌, ask_each}
use Rattle.store.specs.Region.{at, idx}
use Rattle.store.specs.Vector.{tab}

-- questions 12 and 13 of a row whose diagonal is d
unfoldable pub diagonal_asked : ℕ → ℕ → Float → Outcome Unit
diagonal_asked level row d = do
  ask (is_positive d) (bad_diagonal level row)
  ask (is_finite (div64 one64 d)) (bad_reciprocal level row)
  passed

-- the value of entry k of a list of positions
abbrev pub entry_of : List ℕ → List Float → ℕ → Float
entry_of entries values k = at values (idx entries k)

-- what an update writes
pub record Coefficients : Type 0 where
  pub diagonal : List Float
  pub inverse : List Float
  pub coefficients : List Float

-- `update`: the diagonal and its reciprocals row by row, then the faces' values
unfoldable pub kernel_update_of : ℕ → ℕ → List ℕ → List ℕ → List Float → Outcome Coefficients
kernel_update_of level rows diagonals faces values = do
  ask_each rows (λ row. diagonal_asked level row (entry_of diagonals values row))
  accepted (record {
    diagonal = tab (entry_of diagonals values) rows;
    inverse = tab (λ row. div64 one64 (entry_of diagonals values row)) rows;
    coefficients = tab (entry_of faces values) (length faces);
  })
