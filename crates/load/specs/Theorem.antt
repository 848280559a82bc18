-- What is proved of every load (proofs/Pattern.antt, proofs/Values.antt, proofs/Sums.antt). Definitions only.
use Rattle.std.specs.Prelude.{◌≡◌, ℕ, ◌+◌, ◌<◌, ◌≤◌, ◌⊎◌, List, [], ◌∷◌, ℤ, pos, slice_index_or}
use Rattle.load.specs.Box.{Grid}
use Rattle.load.specs.Load.{wholes_of}

-- A list rises strictly, from `lo` on and below `hi`.
abbrev pub Between : ℕ → ℕ → List ℕ → Type 0
Between lo hi [] = Unit
Between lo hi (x ∷ rest) = (lo ≤ x) × (x < hi) × Between (x + 1) hi rest

-- x is one of a list.
abbrev pub Among : ℕ → List ℕ → Type 0
Among x [] = ⊥
Among x (y ∷ rest) = (x ≡ y) ⊎ Among x rest

-- A grid whose faces are told from both sides: the cells behind are below a cell and those ahead above it, rising, and where j is
-- ahead of i, i is behind j.
pub record Neat (m : Grid) : Type 0 where
  pub below : (i : ℕ) → i < m.cells → Between 0 i (m.behind i)
  pub above : (i : ℕ) → i < m.cells → Between (i + 1) m.cells (m.ahead i)
  pub back : (i j : ℕ) → i < m.cells → Among j (m.ahead i) → Among i (m.behind j)
  pub forth : (i j : ℕ) → i < m.cells → Among j (m.behind i) → Among i (m.ahead j)

-- the whole number of entry e of a load
abbrev pub whole_at : ℕ → Grid → ℕ → ℤ
whole_at seed m e = slice_index_or (wholes_of seed m) e (pos 0)
