-- Values taken from an image, and mirrors that agree: what the functions require and ensure. Definitions only.
use Rattle.refusal.specs.declared.Refusal.{Refusal}
use Rattle.std.specs.Prelude.{Bool, ◌&&◌, List, ◌≡◌, ℕ, ◌+◌, ◌≤◌, ◌<◌, length, set, take, drop, Float, Result, Ok, Err}
use Rattle.float.specs.Float.{div64, one64, is_finite, is_positive}
use Rattle.refusal.specs.Outcome.{Outcome, accepted, refused, ask_each, verdict_of}
use Rattle.store.specs.Region.{at, idx, part, splice, Wrote}
use Rattle.store.specs.Vector.{tab, each}
use Rattle.matrix.specs.declared.matrix.SymmetricMatrix.{SymmetricMatrix}
use Rattle.coefficients.specs.declared.values.entries.Entries.{Entries}
use Rattle.coefficients.specs.Update.{diagonal_asked, entry_of, Coefficients, kernel_update_of}
use Rattle.coefficients.specs.Mirrors.{mirrors_agree}

-- whether both pass
unfoldable pub diagonal_good : Float → Bool
diagonal_good d = is_positive d && is_finite (div64 one64 d)

-- the same of those values by the positions of e, for the matrix at the places of s
abbrev pub update_with : ℕ → SymmetricMatrix → Entries → List ℕ → List Float → Outcome Coefficients
update_with level s e w values =
    let faces = idx w (s.offsets + s.rows) in
    kernel_update_of level s.rows (part e.diagonals s.rows w) (part e.faces faces w) values

-- the same of the image at the places of e
abbrev pub update_at : ℕ → SymmetricMatrix → Entries → List ℕ → List Float → Outcome Coefficients
update_at level s e w F = update_with level s e w (part e.values e.entries F)

-- the faces' values among `values` already stand where the coefficients of s are
abbrev pub FacesTaken : List ℕ → List Float → List Float → SymmetricMatrix → Entries → Type 0
FacesTaken w values F s e =
    let faces = idx w (s.offsets + s.rows) in
    part s.coefficients faces F ≡ tab (entry_of (part e.faces faces w) values) faces

-- The frame of a function that writes only from lo up to hi: elsewhere, G is F.
pub record Within {A : Type 0} (lo hi : ℕ) (F G : List A) : Type 0 where
  pub below : take lo G ≡ take lo F
  pub above : drop hi G ≡ drop hi F
  pub size : length G ≡ length F

-- the regions of the matrix hold these values
pub record Holds (w : List ℕ) (s : SymmetricMatrix) (k : Coefficients) (G : List Float) : Type 0 where
  pub diagonal : part s.diagonal s.rows G ≡ k.diagonal
  pub inverse : part s.inverse s.rows G ≡ k.inverse
  pub coefficients : part s.coefficients (idx w (s.offsets + s.rows)) G ≡ k.coefficients

-- What `update` requires: the positions lie in w, each is one of the entries, and the regions follow one another.
pub record UpdateOk (w : List ℕ) (size : ℕ) (s : SymmetricMatrix) (e : Entries) : Type 0 where
  pub starts : s.offsets + s.rows < length w
  pub owns : e.diagonals + s.rows ≤ length w
  pub sides : e.faces + idx w (s.offsets + s.rows) ≤ length w
  pub own : (k : ℕ) → k < s.rows → idx w (e.diagonals + k) < e.entries
  pub side : (k : ℕ) → k < idx w (s.offsets + s.rows) → idx w (e.faces + k) < e.entries
  pub image : e.values + e.entries ≤ s.coefficients
  pub coefs : s.coefficients + idx w (s.offsets + s.rows) ≤ s.diagonal
  pub diags : s.diagonal + s.rows ≤ s.inverse
  pub recips : s.inverse + s.rows ≤ size

-- What it ensures: the definition's answer, its values where it accepts, and in any case nothing else changed.
pub record Updated (w : List ℕ) (s : SymmetricMatrix) (o : Outcome Coefficients) (F G : List Float) (r : Result Unit Refusal) : Type 0 where
  pub verdict : r ≡ verdict_of o
  pub holds : (k : Coefficients) → o ≡ accepted k → Holds w s k G
  pub within : Within s.coefficients (s.inverse + s.rows) F G

-- to[k] = the value of entry k
unfoldable pub pick_turn : List ℕ → ℕ → ℕ → ℕ → ℕ → List Float → List Float
pick_turn w places values to k F = set F (to + k) (at F (values + idx w (places + k)))

-- n positions at `places` in w, each one of `entries` values, which end at or below `to`
pub record EntriesOk (w : List ℕ) (size n entries places values to : ℕ) : Type 0 where
  pub words : places + n ≤ length w
  pub near : (k : ℕ) → k < n → idx w (places + k) < entries
  pub image : values + entries ≤ to
  pub target : to + n ≤ size

-- n positions at `places` in w, each one of `count` values; there is room for n at `to`
pub record GivenOk (w : List ℕ) (size n count places to : ℕ) : Type 0 where
  pub words : places + n ≤ length w
  pub near : (k : ℕ) → k < n → idx w (places + k) < count
  pub target : to + n ≤ size

-- the diagonal stands in F: what a pass over it leaves, each reciprocal, and whether all rows are good
pub record Inverted (rows diagonal inverse : ℕ) (F G : List Float) (r : Bool) : Type 0 where
  pub is : G ≡ splice inverse (tab (λ row. div64 one64 (at F (diagonal + row))) rows) F
  pub all : r ≡ each (λ row. diagonal_good (at F (diagonal + row))) rows

-- a verdict, then the rest
unfoldable pub after : Result Unit Refusal → Outcome Coefficients → Outcome Coefficients
after (Ok tt) rest = rest
after (Err q) rest = refused q

module _ (w : List ℕ) (rows entries places values : ℕ) (F : List Float) where
  -- the diagonal of a row, read in the stores
  abbrev pub diagonal_at : ℕ → Float
  diagonal_at = entry_of (part places rows w) (part values entries F)

-- the verdict on the rows whose diagonal stands in F decides how the questions go on
pub record RowsAsked (level rows diagonal : ℕ) (F : List Float) (r : Result Unit Refusal) : Type 0 where
  pub asked : (rest : Outcome Coefficients) → ask_each rows (λ row. diagonal_asked level row (at F (diagonal + row))) rest ≡ after r rest

-- the same, and each reciprocal written
pub record RowsTold (level rows diagonal inverse : ℕ) (F G : List Float) (r : Result Unit Refusal) : Type 0 where
  pub is : G ≡ splice inverse (tab (λ row. div64 one64 (at F (diagonal + row))) rows) F
  pub asked : (rest : Outcome Coefficients) → ask_each rows (λ row. diagonal_asked level row (at F (diagonal + row))) rest ≡ after r rest

-- the positions of both lie in w, and each is one of `size` values
pub record MirrorsOk (w : List ℕ) (size faces upper lower : ℕ) : Type 0 where
  pub uppers : upper + faces ≤ length w
  pub lowers : lower + faces ≤ length w
  pub up : (k : ℕ) → k < faces → idx w (upper + k) < size
  pub low : (k : ℕ) → k < faces → idx w (lower + k) < size

-- what taking the faces' values at `to` leaves: the upper value of each face, and the answer whether all mirrors agree
pub record Taken (w : List ℕ) (values F G : List Float) (faces upper lower to : ℕ) (r : Bool) : Type 0 where
  pub agree : r ≡ mirrors_agree faces (part upper faces w) (part lower faces w) values
  pub wrote : Wrote to faces (tab (λ k. at values (idx (part upper faces w) k)) faces) F G
