-- The steps to the last level: the words that it has beyond those of any level, then its floats. Definitions only.
use Rattle.std.specs.Prelude.{◌≡◌, List, [], ◌∷◌, ℕ, ◌+◌, ◌≤◌, length}
use Rattle.store.specs.Region.{idx, part, Wrote, Kept}
use Rattle.faces.specs.Faces.{coupled_count_of, coupled_rows_of}
use Rattle.faces.specs.Contract.{pattern_at, CoupledOk}
use Rattle.layout.specs.declared.Place.{Place}
use Rattle.layout.specs.Parts.{faces_in}
pub use Rattle.layout.specs.TerminalContract.{factor_of, FactorOk, FactorDone}

-- ---- the header

-- Three words at a, and a count that a word holds.
pub record MarkOk (size a coupled : ℕ) : Type 0 where
  pub room : a + 3 ≤ size
  pub small : coupled ≤ 256

-- The header says that the level is the last, and how many rows are coupled.
pub record Marked (w z : List ℕ) (a coupled : ℕ) : Type 0 where
  pub wrote : Wrote (a + 1) 2 (1 ∷ coupled ∷ []) w z

-- ---- the words

-- A level at p, its header below it, with so many coupled rows, for which there is room.
pub record ListOk (w : List ℕ) (a : ℕ) (p : Place) (coupled : ℕ) : Type 0 where
  pub level : CoupledOk w (faces_in p)
  pub count : coupled ≡ coupled_count_of (pattern_at w (faces_in p))
  pub small : coupled ≤ 256
  pub offsets : a + 3 ≤ p.offsets
  pub columns : a + 3 ≤ p.columns
  pub below : p.starts ≤ p.links
  pub room : p.links + coupled ≤ length w

-- The header and the coupled rows; between them, and below the header's last two words, nothing changed.
pub record Listed (w z : List ℕ) (a : ℕ) (p : Place) (coupled : ℕ) : Type 0 where
  pub last : idx z (a + 1) ≡ 1
  pub count : idx z (a + 2) ≡ coupled
  pub rows : part p.links coupled z ≡ coupled_rows_of (pattern_at w (faces_in p))
  pub between : (b m : ℕ) → a + 3 ≤ b → b + m ≤ p.links → part b m z ≡ part b m w
  pub kept : Kept (a + 1) w z

-- ---- the floats
