-- Question 11 of a level over lists, and what its functions require. Definitions only.
use Rattle.std.specs.Prelude.{Bool, ◌&&◌, ℕ, ◌+◌, eqb, leb, ltb}
use Rattle.store.specs.Region.{idx}
use Rattle.refusal.specs.Refusal.{missing_diagonal}
use Rattle.refusal.specs.Outcome.{Outcome, passed, ask, ask_each}
use Rattle.hierarchy.specs.Level.{Shape}

-- whether the stored position of row's diagonal is the row's diagonal entry
unfoldable pub diagonal_stands : Shape → ℕ → Bool
diagonal_stands s row =
    let d = idx s.diagonals row in
    leb (idx s.pattern.offsets row) d && ltb d (idx s.pattern.offsets (row + 1)) && eqb (idx s.pattern.columns d) row

-- question 11 of a level, row by row: only stores that no build wrote can fail it
unfoldable pub diagonals_stand : ℕ → Shape → Outcome Unit
diagonals_stand level s =
    ask_each s.pattern.rows (λ row. ask (diagonal_stands s row) (missing_diagonal level row) passed) passed
