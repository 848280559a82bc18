-- What the words of a level tell where they hold a shape of the build, and that the index check passes it.
-- Assumes nothing.
use mathlib.Core.Path.{◌≡◌, refl, sym, ap, ◌∙◌}
use mathlib.Core.Bool.{Bool, true, false, cond}
use mathlib.Core.List.{List, [], ◌∷◌}
use Prim.Native.Nat.{ℕ, suc, ◌+◌, ◌≤◌, ◌<◌}
use native.Mathlib.Omega.{arith}
use lib.Dec.{leb, ltb}
use lib.ListN.{length}
use lib.Ieee.{Float}
use borrow.Author.Tests.{leb-true, le-leb, lt-ltb}
use Rattle.store.specs.Region.{idx, part}
use Rattle.store.proofs.store.Each.{both_l, both_r, each_all}
use Rattle.store.proofs.store.Region.{length_part, get_d_part}
use Rattle.store.proofs.store.Vector.{length_tab}
use Rattle.pattern.specs.Pattern.{Pattern, entries, column_of, row_of, coarse, joins, column_place_of, coarse_positions, Maps}
use Rattle.pattern.proofs.pattern.Number.{not_both}
use Rattle.pattern.proofs.pattern.Place.{length_those}
use Rattle.pattern.proofs.pattern.Coarse.{position_below}
use Rattle.faces.specs.Faces.{faces_of, face_offsets_of, neighbors_of, uppers_of, lowers_of, mirror_of, coupled_of, coupled_count_of, coupled_rows_of}
use Rattle.faces.proofs.faces.Laws.{diagonal_entry, faces_few, upper_entry, near, starts_rise, starts_last, lower_entry, coupled_near}
use Rattle.hierarchy.specs.Level.{Shape, Level}
use Rattle.hierarchy.specs.Build.{shape_of, last_shape, inner_shape}
use Rattle.hierarchy.specs.Proper.{Proper}
use Rattle.hierarchy.proofs.First.{length_uppers}
use Rattle.layout.specs.Layout.{rows_at, last_at, coupled_at, entries_at, faces_at, locate, level_at, words_end, floats_end, levels_at, words_fit}
use Rattle.index_check.specs.Sound.{all_below, head_sound, shape_in, arrays_sound, row_placed}
use Rattle.build_sound.specs.Laid.{Small}

-- ---- lists

-- A list of so many numbers, each below the bound, passes.
all_below_lem : {bound n : ℕ} (v : List ℕ) → length v ≡ n → ((k : ℕ) → k < n → idx v k < bound) → all_below bound v ≡ true
unfolding all_below
all_below_lem {bound} {n} v e all =
    each_all (λ k. ltb (idx v k) bound) (length v) (λ k h. lt-ltb (idx v k) bound (all k (omega arith)))

-- ---- a shape

module _ {p : Pattern} (f : Proper p) where
  -- A neighbour and a lower entry for each face.
  length_neighbors : length (neighbors_of p) ≡ faces_of p
  unfolding neighbors_of
  length_neighbors = length_tab (λ k. column_of p (idx (uppers_of p) k)) (faces_of p)

  length_lowers : length (lowers_of p) ≡ faces_of p
  unfolding lowers_of
  length_lowers = length_tab (λ k. mirror_of p (idx (uppers_of p) k)) (faces_of p)

  -- A shape of the build has sound arrays, if its links and positions are below their bounds.
  arrays_shape : (targets sums : ℕ) (terminal : Bool) (links positions : List ℕ) → all_below targets links ≡ true → all_below sums positions ≡ true
      → arrays_sound targets sums (shape_of p terminal links positions) ≡ true
  unfolding arrays_sound
  arrays_shape targets sums terminal links positions l s =
      let v = f.valid in
      rw (
        all_below_lem {bound = p.rows} p.columns refl v.inside,
        all_below_lem {bound = p.rows} (neighbors_of p) length_neighbors (near v),
        all_below_lem {bound = entries p} (uppers_of p) (length_uppers p) (upper_entry p),
        all_below_lem {bound = entries p} (lowers_of p) length_lowers (lower_entry v f.rising f.mirrored),
        l,
        s,
      ) refl

  -- Its rows stand in order.
  row_shape : (terminal : Bool) (links positions : List ℕ) (row : ℕ) → row < p.rows → row_placed (shape_of p terminal links positions) row ≡ true
  unfolding row_placed
  row_shape terminal links positions row h =
      let v = f.valid in
      let d = diagonal_entry v f.rising f.diagonal row h in
      rw (
        le-leb (idx p.offsets row) (idx p.offsets (row + 1)) (v.rises row h),
        le-leb (idx (face_offsets_of p) row) (idx (face_offsets_of p) (row + 1)) (starts_rise v row h),
        lt-ltb _ (entries p) d.0,
      ) refl

  -- The coupled rows are rows.
  coupled_below : all_below p.rows (coupled_rows_of p) ≡ true
  unfolding coupled_count_of coupled_rows_of
  coupled_below = all_below_lem {bound = p.rows} (coupled_rows_of p) (length_those (coupled_of p) p.rows) (coupled_near p)

  -- There are as many as counted.
  pub length_coupled : length (coupled_rows_of p) ≡ coupled_count_of p
  unfolding coupled_count_of coupled_rows_of
  length_coupled = length_those (coupled_of p) p.rows

  -- The arrays of a last level.
  pub last_arrays : arrays_sound p.rows 0 (last_shape p) ≡ true
  last_arrays = arrays_shape p.rows 0 true (coupled_rows_of p) [] coupled_below (all_below_lem [] refl (λ k h. absurd (omega arith)))

  -- The arrays of a level with aggregates.
  pub inner_arrays : {map : List ℕ} {count : ℕ} → Maps map p.rows count
      → arrays_sound count (entries (coarse p map count)) (inner_shape p map count) ≡ true
  unfolding coarse_positions
  inner_arrays {map} {count} m =
      let size = length_tab (λ e. column_place_of count (joins p map) (idx map (row_of p e)) (idx map (column_of p e))) (entries p) in
      arrays_shape count (entries (coarse p map count)) false map (coarse_positions p map count) (all_below_lem map m.size m.below)
      (all_below_lem (coarse_positions p map count) size (position_below p map count f.valid m))

-- ---- the words of a level

module _ (w : List ℕ) (a : ℕ) {p : Pattern} {terminal : Bool} {links positions : List ℕ} (small : Small p)
    (is : shape_in w a ≡ shape_of p terminal links positions) where
  -- The words tell the rows,
  pub rows_told : rows_at w a ≡ p.rows
  rows_told = ap (λ (s : Shape). s.pattern.rows) is

  -- whether it is the last level,
  pub last_told : last_at w a ≡ terminal
  last_told = ap (λ (s : Shape). s.terminal) is

  -- the entries,
  pub entries_told : entries_at w a ≡ entries p
  entries_told = sym (get_d_part (a + 3) (rows_at w a + 1) w (rows_at w a) 0 (omega arith))
      ∙ ap (λ (s : Shape). idx s.pattern.offsets (rows_at w a)) is ∙ ap (idx p.offsets) rows_told ∙ small.proper.valid.last

  -- and the faces.
  pub faces_told : faces_at w a ≡ faces_of p
  faces_told = sym (get_d_part (locate w a 0).starts (rows_at w a + 1) w (rows_at w a) 0 (omega arith))
      ∙ ap (λ (s : Shape). idx s.starts (rows_at w a)) is ∙ ap (idx (face_offsets_of p)) rows_told ∙ starts_last small.proper.valid

  -- The head is sound, if the words lie in the store and no more rows are coupled than there are.
  pub head_told : words_end w a ≤ length w → coupled_at w a ≤ p.rows → head_sound w a ≡ true
  unfolding head_sound
  head_told ends coupled =
      let r = rows_told in
      let e = entries_told in
      let f = faces_told in
      rw (
        le-leb (words_end w a) (length w) ends,
        le-leb (rows_at w a) 65536 (omega (arith, small.few)),
        le-leb (entries_at w a) 1048576 (omega (arith, small.short)),
        le-leb (faces_at w a) (entries_at w a) (omega (arith, faces_few p)),
        le-leb (coupled_at w a) (rows_at w a) (omega arith),
      ) refl

  -- The rows stand in order.
  pub rows_placed_lem : (row : ℕ) → row < rows_at w a → row_placed (shape_in w a) row ≡ true
  rows_placed_lem row h = let r = rows_told in rw is (row_shape small.proper terminal links positions row (omega arith))

-- The first of two ends, where the test says so.
first_of : (b : Bool) (x y : ℕ) {n : ℕ} → b ≡ true → cond b x y ≤ n → x ≤ n
first_of true x y e h = h
first_of false x y e h = absurd (not_both e refl)

-- The coupled rows of the last level, of which the words tell how many.
pub coupled_told : (w : List ℕ) (a : ℕ) {p : Pattern} → Small p → shape_in w a ≡ last_shape p → words_end w a ≤ length w
    → coupled_at w a ≡ coupled_count_of p
unfolding words_end
coupled_told w a {p} small is ends =
    let t : last_at w a ≡ true = last_told w a small is in
    let here = (locate w a 0).links in
    let long : here + coupled_at w a ≤ length w = first_of (last_at w a) (here + coupled_at w a) _ t ends in
    sym (length_part here (coupled_at w a) w long)
    ∙ ap (λ (b : Bool). length (part here (cond b (coupled_at w a) (rows_at w a)) w)) (sym t)
    ∙ ap (λ (s : Shape). length s.links) is ∙ length_coupled small.proper

-- A level with aggregates has none.
pub coupled_none : (w : List ℕ) (a : ℕ) {p : Pattern} {links positions : List ℕ} → Small p → shape_in w a ≡ shape_of p false links positions
    → coupled_at w a ≡ 0
coupled_none w a small is = rw (last_told w a small is) refl

-- ---- the view

module _ (w : List ℕ) (F : List Float) (a b : ℕ) {l : Level} where
  -- The first level of the view, and the levels after it.
  pub view_first : (k : ℕ) {rest : List Level} → levels_at (suc k) w F a b ≡ l ∷ rest
      → (level_at w F a b ≡ l) × (levels_at k w F (words_end w a) (floats_end w a b) ≡ rest)
  unfolding levels_at
  view_first k e = (cc, cc)

  -- Its shape stands in the words.
  pub shape_told : {s : Shape} → level_at w F a b ≡ l → l.shape ≡ s → shape_in w a ≡ s
  unfolding level_at
  shape_told e is = ap (λ (k : Level). k.shape) e ∙ is

-- The words of a level lie in the store, and those of the levels after it.
pub fit_split : (k : ℕ) (w : List ℕ) (a : ℕ) → words_fit (suc k) w a ≡ true → (words_end w a ≤ length w) × (words_fit k w (words_end w a) ≡ true)
unfolding words_fit
fit_split k w a e =
    (leb-true (words_end w a) (length w) (both_l _ (words_fit k w (words_end w a)) e), both_r (leb (words_end w a) (length w)) _ e)
