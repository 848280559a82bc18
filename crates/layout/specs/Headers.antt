-- The three words that each level starts with, in the stores and as its shape fixes them. Definitions only.
use Rattle.std.specs.Prelude.{cond, List, [], ◌∷◌, ℕ, zero, suc, ◌+◌, length}
use Rattle.store.specs.Region.{idx}
use Rattle.hierarchy.specs.Level.{Shape, Level}
use Rattle.layout.specs.Layout.{words_end}

-- the header of the level whose words start at a
abbrev pub head_at : List ℕ → ℕ → List ℕ
head_at w a = idx w a ∷ idx w (a + 1) ∷ idx w (a + 2) ∷ []

-- the headers of so many levels from a on
unfoldable pub heads_at : ℕ → List ℕ → ℕ → List (List ℕ)
heads_at zero w a = []
heads_at (suc k) w a = head_at w a ∷ heads_at k w (words_end w a)

-- the header of a level of that shape: its rows, and on the last level 1 and the coupled rows, on any other zeros
abbrev pub head_of : Shape → List ℕ
head_of s = s.pattern.rows ∷ cond s.terminal 1 0 ∷ cond s.terminal (length s.links) 0 ∷ []

-- the headers of levels
unfoldable pub heads_of : List Level → List (List ℕ)
heads_of [] = []
heads_of (l ∷ rest) = head_of l.shape ∷ heads_of rest
