-- Where a level stands in the two stores, and the hierarchy that is read out of them. Definitions only.
-- Words of a level: rows, 1 on the last level (else 0), coupled rows | offsets | columns | starts | diagonals | neighbors | uppers |
-- lowers | links | positions. Floats of a level: values | coefficients | diagonal | inverse | dic | factor. The levels follow one
-- another, the finest first; after the last one's floats come the row sums of the finest. The values are scratch: a build and an update
-- make the rest of them, and nobody reads them after.
use Rattle.std.specs.Prelude.{Bool, cond, true, ◌&&◌, List, [], ◌∷◌, ℕ, zero, suc, ◌+◌, eqb, leb, length, Float}
use Rattle.store.specs.Region.{idx, part}
use Rattle.cholesky.specs.Triangle.{tri}
use Rattle.hierarchy.specs.Level.{Shape, Numbers, Level, Hierarchy}
use Rattle.layout.specs.declared.Place.{Place}

-- a level of so many rows, entries and faces whose words start at a and whose floats start at b
abbrev pub place_of : ℕ → ℕ → ℕ → ℕ → ℕ → Place
place_of a b rows entries faces =
    let offsets = a + 3 in let columns = offsets + rows + 1 in let starts = columns + entries in let diagonals = starts + rows + 1 in
    let neighbors = diagonals + rows in let uppers = neighbors + faces in let lowers = uppers + faces in let links = lowers + faces in
    let coefficients = b + entries in let diagonal = coefficients + faces in let inverse = diagonal + rows in let dic = inverse + rows in
    record {
      rows = rows;
      entries = entries;
      faces = faces;
      offsets = offsets;
      columns = columns;
      starts = starts;
      diagonals = diagonals;
      neighbors = neighbors;
      uppers = uppers;
      lowers = lowers;
      links = links;
      positions = links + rows;
      values = b;
      coefficients = coefficients;
      diagonal = diagonal;
      inverse = inverse;
      dic = dic;
      factor = dic + rows;
    }

-- what the words at a tell: the rows of the level,
abbrev pub rows_at : List ℕ → ℕ → ℕ
rows_at w a = idx w a

-- whether it is the last,
abbrev pub last_at : List ℕ → ℕ → Bool
last_at w a = eqb (idx w (a + 1)) 1

-- the coupled rows of the last,
abbrev pub coupled_at : List ℕ → ℕ → ℕ
coupled_at w a = cond (last_at w a) (idx w (a + 2)) 0

-- its entries,
abbrev pub entries_at : List ℕ → ℕ → ℕ
entries_at w a = idx w (a + 3 + rows_at w a)

-- and its faces
abbrev pub faces_at : List ℕ → ℕ → ℕ
faces_at w a = idx w (a + 3 + rows_at w a + 1 + entries_at w a + rows_at w a)

-- the place of the level whose words start at a
abbrev pub locate : List ℕ → ℕ → ℕ → Place
locate w a b = place_of a b (rows_at w a) (entries_at w a) (faces_at w a)

-- the shape that stands at p
abbrev pub shape_at : List ℕ → Place → Bool → ℕ → Shape
shape_at w p last coupled = record {
  pattern = record {
    rows = p.rows;
    offsets = part p.offsets (p.rows + 1) w;
    columns = part p.columns p.entries w;
  };
  starts = part p.starts (p.rows + 1) w;
  neighbors = part p.neighbors p.faces w;
  uppers = part p.uppers p.faces w;
  lowers = part p.lowers p.faces w;
  diagonals = part p.diagonals p.rows w;
  terminal = last;
  links = part p.links (cond last coupled p.rows) w;
  positions = part p.positions (cond last 0 p.entries) w;
}

-- the numbers that stand at p
abbrev pub numbers_at : List Float → Place → ℕ → Numbers
numbers_at F p coupled = record {
  coefficients = part p.coefficients p.faces F;
  diagonal = part p.diagonal p.rows F;
  inverse = part p.inverse p.rows F;
  dic = part p.dic p.rows F;
  factor = part p.factor (tri coupled) F;
}

-- the level whose words start at a and whose floats start at b
unfoldable pub level_at : List ℕ → List Float → ℕ → ℕ → Level
level_at w F a b = record {
  shape = shape_at w (locate w a b) (last_at w a) (coupled_at w a);
  numbers = numbers_at F (locate w a b) (coupled_at w a);
}

-- where its words end
unfoldable pub words_end : List ℕ → ℕ → ℕ
words_end w a =
    let p = locate w a 0 in
    cond (last_at w a) (p.links + coupled_at w a) (p.positions + p.entries)

-- where its floats end
unfoldable pub floats_end : List ℕ → ℕ → ℕ → ℕ
floats_end w a b = (locate w a b).factor + tri (coupled_at w a)

-- so many levels from a and b on
unfoldable pub levels_at : ℕ → List ℕ → List Float → ℕ → ℕ → List Level
levels_at zero w F a b = []
levels_at (suc k) w F a b = level_at w F a b ∷ levels_at k w F (words_end w a) (floats_end w a b)

-- where the words of so many levels end
unfoldable pub words_to : ℕ → List ℕ → ℕ → ℕ
words_to zero w a = a
words_to (suc k) w a = words_to k w (words_end w a)

-- where the floats of so many levels end
unfoldable pub image_end : ℕ → List ℕ → ℕ → ℕ → ℕ
image_end zero w a b = b
image_end (suc k) w a b = image_end k w (words_end w a) (floats_end w a b)

-- whether the words of so many levels from a on lie in the store
unfoldable pub words_fit : ℕ → List ℕ → ℕ → Bool
words_fit zero w a = true
words_fit (suc k) w a = leb (words_end w a) (length w) && words_fit k w (words_end w a)

-- the rows of the finest of so many levels; none where there is no level, and no word is read then
unfoldable pub finest_rows : ℕ → List ℕ → ℕ
finest_rows zero w = 0
finest_rows (suc k) w = rows_at w 0

-- where the image of so many levels ends: behind their floats and the row sums of the finest
abbrev pub image_of : ℕ → List ℕ → ℕ
image_of k w = image_end k w 0 0 + finest_rows k w

-- the hierarchy of so many levels in the stores, the floats of the first level starting at b: all words that are not scratch
unfoldable pub view_of : ℕ → List ℕ → List Float → ℕ → Hierarchy
view_of k w F b = record { levels = levels_at k w F 0 b; sums = part (image_end k w 0 b) (finest_rows k w) F }
