-- What functions that walk a text by places ensure. Definitions only.
use Rattle.std.specs.Prelude.{Option, Some, None, ◌≡◌, true, false, cond, ◌||◌, List, [], ◌∷◌, ℕ, suc, ◌-◌, ◌≤◌, ◌<◌, eqb, length, take, drop}
use Rattle.matrix_market.specs.declared.lines.Field.{Field}
use Rattle.matrix_market.specs.declared.lines.Line.{Line}
use Rattle.matrix_market.specs.Lines.{fields_of, first_line, is_data, data_of}

-- how many spaces and tabs a list starts with
unfoldable pub blanks_of : List ℕ → ℕ
blanks_of [] = 0
blanks_of (x ∷ l) = cond (eqb x 32 || eqb x 9) (suc (blanks_of l)) 0

-- the bytes of a field
abbrev pub bytes_of : List ℕ → Field → List ℕ
bytes_of l f = take (f.to - f.from) (drop f.from l)

-- f is the first field of l from `at` on, or the end of l.
pub record NextField (l : List ℕ) (at : ℕ) (f : Field) : Type 0 where
  pub ahead : at ≤ f.from
  pub order : f.from ≤ f.to
  pub within : f.to ≤ length l
  pub some : f.from < length l → fields_of (drop at l) ≡ bytes_of l f ∷ fields_of (drop f.to l)
  pub none : f.from ≡ length l → fields_of (drop at l) ≡ []

-- l has three fields: f, g and h.
pub record AreFields (l : List ℕ) (f g h : Field) : Type 0 where
  pub are : fields_of l ≡ bytes_of l f ∷ bytes_of l g ∷ bytes_of l h ∷ []
  pub first : (f.from ≤ f.to) × (f.to ≤ length l)
  pub second : (g.from ≤ g.to) × (g.to ≤ length l)
  pub third : (h.from ≤ h.to) × (h.to ≤ length l)

-- Whether l has three fields, and then which.
abbrev pub ThreeFields : List ℕ → Option (Field × Field × Field) → Type 0
ThreeFields l (Some (f, g, h)) = AreFields l f g h
ThreeFields l None = eqb (length (fields_of l)) 3 ≡ false

-- The first line of t is its first n bytes.
pub record FirstLine (t : List ℕ) (n : ℕ) : Type 0 where
  pub within : n ≤ length t
  pub is : take n t ≡ first_line t

-- r is the line of t that starts at `at`.
pub record LineAt (t : List ℕ) (at : ℕ) (r : Line) : Type 0 where
  pub order : r.from ≤ r.to
  pub within : r.to ≤ length t
  pub further : at < r.next
  pub ahead : r.next ≤ length t
  pub some : is_data (take (r.to - r.from) (drop r.from t)) ≡ true → data_of (drop at t) ≡ take (r.to - r.from) (drop r.from t) ∷ data_of (drop r.next t)
  pub none : is_data (take (r.to - r.from) (drop r.from t)) ≡ false → data_of (drop at t) ≡ data_of (drop r.next t)

-- r is the first line of t that counts, from `at` on, and the rest of those lines is what counts from where the next line starts.
pub record NextIs (t : List ℕ) (at : ℕ) (r : Line) : Type 0 where
  pub order : r.from ≤ r.to
  pub within : r.to ≤ length t
  pub further : at < r.next
  pub ahead : r.next ≤ length t
  pub is : data_of (drop at t) ≡ take (r.to - r.from) (drop r.from t) ∷ data_of (drop r.next t)

-- the first line of t that counts, from `at` on; none where no further line counts
abbrev pub NextLine : List ℕ → ℕ → Option Line → Type 0
NextLine t at (Some r) = NextIs t at r
NextLine t at None = data_of (drop at t) ≡ []
