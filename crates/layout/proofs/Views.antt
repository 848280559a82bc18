-- Writes above a level leave it as it was: the frames of the view.
-- Assumes nothing.
use mathlib.Core.Path.{◌≡◌, refl}
use mathlib.Core.Bool.{Bool, true, false, cond}
use mathlib.Core.List.{List}
use Prim.Native.Nat.{ℕ, zero, suc, ◌+◌, ◌≤◌}
use native.Mathlib.Omega.{arith}
use lib.Dec.{leb}
use lib.ListN.{length}
use lib.Ieee.{Float}
use borrow.Author.Tests.{leb-true}
use Rattle.store.specs.Region.{idx, part, Kept}
use Rattle.store.proofs.store.Each.{both_l, both_r}
use Rattle.store.proofs.store.Region.{kept_part, kept_get}
use Rattle.cholesky.specs.Triangle.{tri}
use Rattle.layout.specs.declared.Place.{Place}
use Rattle.layout.specs.Layout.{rows_at, last_at, coupled_at, entries_at, faces_at, locate, shape_at, numbers_at, level_at, words_end, floats_end, levels_at, words_to, image_end, words_fit, finest_rows, image_of, view_of}
use Rattle.hierarchy.specs.Level.{empty_hierarchy}

-- ---- one level

-- Where the links and the positions end, by what the level's words say of it.
record Ends (e links coupled rows entries : ℕ) (last : Bool) : Type 0 where
  before : links ≤ e
  linked : links + cond last coupled rows ≤ e
  located : links + rows + cond last 0 entries ≤ e + cond last rows 0

ends : (e links coupled rows entries : ℕ) (last : Bool) → cond last (links + coupled) (links + rows + entries) ≤ e
    → Ends e links coupled rows entries last
ends e links coupled rows entries true h = record { before = omega arith; linked = h; located = omega arith }
ends e links coupled rows entries false h = record { before = omega arith; linked = omega arith; located = omega arith }

-- A part of no elements is anywhere the same.
no_part : {A : Type 0} (a : ℕ) (F G : List A) → part a 0 G ≡ part a 0 F
unfolding part
no_part a F G = refl

-- The positions, where there are any.
positions_kept : {e : ℕ} {w z : List ℕ} (at rows entries : ℕ) (last : Bool) → Kept e w z
    → at + cond last 0 entries ≤ e + cond last rows 0 → part at (cond last 0 entries) z ≡ part at (cond last 0 entries) w
positions_kept {e} {w} {z} at rows entries true k h = no_part at w z
positions_kept {e} {w} {z} at rows entries false k h = kept_part k at entries (omega arith)

-- What the words of a level tell is the same in w and z: its sizes, its shape, and where it ends.
pub record SameWords (w z : List ℕ) (a : ℕ) : Type 0 where
  pub rows : rows_at z a ≡ rows_at w a
  pub last : last_at z a ≡ last_at w a
  pub coupled : coupled_at z a ≡ coupled_at w a
  pub entries : entries_at z a ≡ entries_at w a
  pub faces : faces_at z a ≡ faces_at w a
  pub shape : shape_at z (locate z a 0) (last_at z a) (coupled_at z a) ≡ shape_at w (locate w a 0) (last_at w a) (coupled_at w a)
  pub ends : words_end z a ≡ words_end w a

module _ {e : ℕ} {w z : List ℕ} (a b : ℕ) (words : Kept e w z) (below : words_end w a ≤ e) where
  -- the level's sizes, by the old words
  abbrev rows : ℕ
  rows = rows_at w a

  abbrev p : Place
  p = locate w a b

  bounds : Ends e p.links (coupled_at w a) rows (entries_at w a) (last_at w a)
  unfolding words_end
  bounds = ends e p.links (coupled_at w a) rows (entries_at w a) (last_at w a) below

  rows_kept : rows_at z a ≡ rows_at w a
  rows_kept = let h = bounds.before in kept_get words a 0 (omega arith)

  entries_kept : idx z (a + 3 + rows) ≡ entries_at w a
  entries_kept = let h = bounds.before in kept_get words (a + 3 + rows) 0 (omega arith)

  faces_kept : idx z (a + 3 + rows + 1 + entries_at w a + rows) ≡ faces_at w a
  faces_kept = let h = bounds.before in kept_get words (a + 3 + rows + 1 + entries_at w a + rows) 0 (omega arith)

  last_kept : idx z (a + 1) ≡ idx w (a + 1)
  last_kept = let h = bounds.before in kept_get words (a + 1) 0 (omega arith)

  coupled_kept : idx z (a + 2) ≡ idx w (a + 2)
  coupled_kept = let h = bounds.before in kept_get words (a + 2) 0 (omega arith)

  shape_kept : shape_at z p (last_at w a) (coupled_at w a) ≡ shape_at w p (last_at w a) (coupled_at w a)
  shape_kept =
      let h = bounds in
      let h0 = h.before in
      let h1 : part p.offsets (p.rows + 1) z ≡ part p.offsets (p.rows + 1) w = kept_part words p.offsets (p.rows + 1) (omega arith) in
      let h2 : part p.columns p.entries z ≡ part p.columns p.entries w = kept_part words p.columns p.entries (omega arith) in
      let h3 : part p.starts (p.rows + 1) z ≡ part p.starts (p.rows + 1) w = kept_part words p.starts (p.rows + 1) (omega arith) in
      let h4 : part p.neighbors p.faces z ≡ part p.neighbors p.faces w = kept_part words p.neighbors p.faces (omega arith) in
      let h5 : part p.uppers p.faces z ≡ part p.uppers p.faces w = kept_part words p.uppers p.faces (omega arith) in
      let h6 : part p.lowers p.faces z ≡ part p.lowers p.faces w = kept_part words p.lowers p.faces (omega arith) in
      let h7 : part p.diagonals p.rows z ≡ part p.diagonals p.rows w = kept_part words p.diagonals p.rows (omega arith) in
      let h8 = kept_part words p.links (cond (last_at w a) (coupled_at w a) p.rows) h.linked in
      let h9 = positions_kept p.positions rows p.entries (last_at w a) words h.located in
      cc

  words_same : words_end z a ≡ words_end w a
  unfolding words_end
  words_same = rw (rows_kept, entries_kept, faces_kept, last_kept, coupled_kept)

  floats_same : floats_end z a b ≡ floats_end w a b
  unfolding floats_end
  floats_same = rw (rows_kept, entries_kept, faces_kept, last_kept, coupled_kept)

  module _ {e' : ℕ} {F G : List Float} (floats : Kept e' F G) (under : floats_end w a b ≤ e') where
    top : p.factor + tri (coupled_at w a) ≤ e'
    unfolding floats_end
    top = under

    numbers_kept : numbers_at G p (coupled_at w a) ≡ numbers_at F p (coupled_at w a)
    numbers_kept =
        let h = top in
        let h2 : part p.coefficients p.faces G ≡ part p.coefficients p.faces F = kept_part floats p.coefficients p.faces (omega arith) in
        let h3 : part p.diagonal p.rows G ≡ part p.diagonal p.rows F = kept_part floats p.diagonal p.rows (omega arith) in
        let h4 : part p.inverse p.rows G ≡ part p.inverse p.rows F = kept_part floats p.inverse p.rows (omega arith) in
        let h5 : part p.dic p.rows G ≡ part p.dic p.rows F = kept_part floats p.dic p.rows (omega arith) in
        let h6 = kept_part floats p.factor (tri (coupled_at w a)) (omega arith) in
        cc

    level_same : level_at z G a b ≡ level_at w F a b
    unfolding level_at
    level_same = rw (rows_kept, entries_kept, faces_kept, last_kept, coupled_kept, shape_kept, numbers_kept)

-- Words that are kept to where a level ends tell the same of it.
pub words_told : (a : ℕ) {e : ℕ} {w z : List ℕ} → Kept e w z → words_end w a ≤ e → SameWords w z a
words_told a {e} {w} {z} k h =
    let rows = rows_kept a 0 k h in
    let last = last_kept a 0 k h in
    let coupled = coupled_kept a 0 k h in
    let entries = entries_kept a 0 k h in
    let faces = faces_kept a 0 k h in
    let shape = shape_kept a 0 k h in
    record {
      rows = rows;
      last = rw last;
      coupled = rw (last, coupled);
      entries = rw (rows, entries);
      faces = rw (rows, entries, faces);
      shape = rw (rows, entries, faces, last, coupled, shape);
      ends = words_same a 0 k h;
    }

-- Writes above a level leave the level, and where it ends, as they were.
pub level_kept : (a b : ℕ) {e e' : ℕ} {w z : List ℕ} {F G : List Float} → Kept e w z → Kept e' F G → words_end w a ≤ e → floats_end w a b ≤ e'
    → e ≤ length w → e' ≤ length F
    → (level_at z G a b ≡ level_at w F a b) × (words_end z a ≡ words_end w a) × (floats_end z a b ≡ floats_end w a b)
level_kept a b k l h h' fits fits' = (level_same a b k h l h', words_same a b k h, floats_same a b k h)

-- ---- levels

-- A level's words end behind its header,
pub words_rise : (w : List ℕ) (a : ℕ) → a + 3 ≤ words_end w a
unfolding words_end
words_rise w a = go (last_at w a)
  where
    go : (last : Bool) → a + 3 ≤ cond last ((locate w a 0).links + coupled_at w a) ((locate w a 0).positions + entries_at w a)
    go true = omega arith
    go false = omega arith

-- and its floats behind where they start.
floats_rise : (w : List ℕ) (a b : ℕ) → b ≤ floats_end w a b
unfolding floats_end
floats_rise w a b = omega arith

-- So many levels end behind where their words start,
pub words_to_lem : (k : ℕ) (w : List ℕ) (a : ℕ) → a ≤ words_to k w a
unfolding words_to
words_to_lem zero w a = omega arith
words_to_lem (suc k) w a = omega (arith, words_rise w a, words_to_lem k w (words_end w a))

-- and where their floats start.
pub floats_to : (k : ℕ) (w : List ℕ) (a b : ℕ) → b ≤ image_end k w a b
unfolding image_end
floats_to zero w a b = omega arith
floats_to (suc k) w a b = omega (arith, floats_rise w a b, floats_to k w (words_end w a) (floats_end w a b))

-- Writes above so many levels leave them as they were.
pub levels_kept : (k a b : ℕ) {e e' : ℕ} {w z : List ℕ} {F G : List Float} → Kept e w z → Kept e' F G → words_to k w a ≤ e → image_end k w a b ≤ e'
    → e ≤ length w → e' ≤ length F
    → (levels_at k z G a b ≡ levels_at k w F a b) × (image_end k z a b ≡ image_end k w a b) × (words_fit k z a ≡ words_fit k w a)
unfolding levels_at image_end words_fit words_to
levels_kept zero a b words floats below under fits fits' = (refl, refl, refl)
levels_kept (suc k) a b {e} {e'} {w} {z} {F} {G} words floats below under fits fits' =
    let w-ends : words_end w a ≤ e = omega (arith, words_to_lem k w (words_end w a)) in
    let f-ends : floats_end w a b ≤ e' = omega (arith, floats_to k w (words_end w a) (floats_end w a b)) in
    let here = level_kept a b words floats w-ends f-ends fits fits' in
    let deeper = levels_kept k (words_end w a) (floats_end w a b) words floats below under fits fits' in
    let size = words.size in
    (rw (here.0, here.1, here.2, deeper.0), rw (here.1, here.2, deeper.1), rw (here.1, size, deeper.2))

-- Levels whose words lie in the store end in it.
pub fit_to : (k : ℕ) (w : List ℕ) (a : ℕ) → a ≤ length w → words_fit k w a ≡ true → words_to k w a ≤ length w
unfolding words_fit words_to
fit_to zero w a h t = h
fit_to (suc k) w a h t =
    fit_to k w (words_end w a) (leb-true (words_end w a) (length w) (both_l (leb (words_end w a) (length w)) (words_fit k w (words_end w a)) t))
    (both_r (leb (words_end w a) (length w)) (words_fit k w (words_end w a)) t)

-- ---- no levels

-- The first word tells the rows of the finest level where there is one,
pub finest_rows_lem : (k : ℕ) (w : List ℕ) → 1 ≤ k → finest_rows k w ≡ rows_at w 0
unfolding finest_rows
finest_rows_lem zero w some = absurd (omega arith)
finest_rows_lem (suc k) w some = refl

-- and there are never more.
pub finest_most : (k : ℕ) (w : List ℕ) → finest_rows k w ≤ rows_at w 0
unfolding finest_rows
finest_most zero w = omega arith
finest_most (suc k) w = omega arith

-- No levels are the empty hierarchy, whatever the stores hold.
pub view_empty : (w : List ℕ) (F : List Float) → view_of 0 w F 0 ≡ empty_hierarchy
unfolding view_of levels_at image_end finest_rows part
view_empty w F = refl

-- Their image has no float.
pub image_empty : (w : List ℕ) → image_of 0 w ≡ 0
unfolding image_end finest_rows
image_empty w = refl
