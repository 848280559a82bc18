-- A place by its equations, and what stands there. Definitions only.
use Rattle.std.specs.Prelude.{◌≡◌, List, ℕ, ◌+◌, Float}
use Rattle.store.specs.Region.{idx, part}
use Rattle.coefficients.specs.Update.{Coefficients}
use Rattle.pattern.specs.Pattern.{Pattern, entries}
use Rattle.faces.specs.Faces.{faces_of, face_offsets_of, neighbors_of, uppers_of, lowers_of, diagonals_of}
use Rattle.layout.specs.declared.Place.{Place}

-- p is the place of a level whose words start at a and whose floats start at b.
pub record Placed (a b : ℕ) (p : Place) : Type 0 where
  pub offsets : p.offsets ≡ a + 3
  pub columns : p.columns ≡ p.offsets + p.rows + 1
  pub starts : p.starts ≡ p.columns + p.entries
  pub diagonals : p.diagonals ≡ p.starts + p.rows + 1
  pub neighbors : p.neighbors ≡ p.diagonals + p.rows
  pub uppers : p.uppers ≡ p.neighbors + p.faces
  pub lowers : p.lowers ≡ p.uppers + p.faces
  pub links : p.links ≡ p.lowers + p.faces
  pub positions : p.positions ≡ p.links + p.rows
  pub values : p.values ≡ b
  pub coefficients : p.coefficients ≡ p.values + p.entries
  pub diagonal : p.diagonal ≡ p.coefficients + p.faces
  pub inverse : p.inverse ≡ p.diagonal + p.rows
  pub dic : p.dic ≡ p.inverse + p.rows
  pub factor : p.factor ≡ p.dic + p.rows

-- The words at p, whose level starts at a, are those of the pattern q: its rows, its offsets and columns, and its faces.
pub record Shapes (w : List ℕ) (a : ℕ) (p : Place) (q : Pattern) : Type 0 where
  pub rows : p.rows ≡ q.rows
  pub most : p.entries ≡ entries q
  pub count : p.faces ≡ faces_of q
  pub head : idx w a ≡ p.rows
  pub offsets : part p.offsets (p.rows + 1) w ≡ q.offsets
  pub columns : part p.columns p.entries w ≡ q.columns
  pub starts : part p.starts (p.rows + 1) w ≡ face_offsets_of q
  pub diagonals : part p.diagonals p.rows w ≡ diagonals_of q
  pub neighbors : part p.neighbors p.faces w ≡ neighbors_of q
  pub uppers : part p.uppers p.faces w ≡ uppers_of q
  pub lowers : part p.lowers p.faces w ≡ lowers_of q

-- the coefficients at p
abbrev pub coefficients_at : List Float → Place → Coefficients
coefficients_at F p = record {
  diagonal = part p.diagonal p.rows F;
  inverse = part p.inverse p.rows F;
  coefficients = part p.coefficients p.faces F;
}
