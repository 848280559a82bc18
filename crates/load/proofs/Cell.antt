-- The row of a cell: its draws, its mirrors, and what stands then. Assumes nothing.
use Rattle.std.proofs.Common.{◌≡◌, ℕ, suc, ◌+◌, ◌-◌, ◌*◌, ◌<◌, ◌≤◌, min, max, Bool, true, false, cond, List, ◌∷◌, ◌++◌, map, length, pos, neg_ℤ, sym, refl, ap, ◌∙◌, mod-lt, add-one, arith, length-append}
use mathlib.Core.List.{map-append}
use lib.Ieee.{Float, binary64, of_int, neg}
use Rattle.float.specs.Float.{zero64}
use Rattle.store.specs.Region.{at, idx}
use Rattle.pattern.proofs.pattern.Number.{not_both, sum_step}
use Rattle.galerkin.proofs.exact.Whole.{zero_is}
use Rattle.load.specs.declared.cells.Extents.{Extents}
use Rattle.load.specs.declared.cells.Cell.{Cell}
use Rattle.load.specs.declared.cells.Faces.{Faces}
use Rattle.load.specs.declared.drawing.Draws.{Draws}
use Rattle.load.specs.declared.laying.Mirrors.{Mirrors}
use Rattle.load.specs.declared.laying.Reached.{Reached}
use Rattle.load.specs.Box.{Grid}
use Rattle.load.specs.Draw.{draw_of}
use Rattle.load.specs.Load.{total, conductance_of, face_of, columns_in, own_of, off_of, wholes_in, row_start}
use Rattle.load.specs.Steps.{optional, one, count_of, grid_of, FacesAre, DrewAll, DrawsSmall, MirrorOk, mirror_at, MirrorsOk, MirrorsAre, own_sum, RoomFor, Pushed, columns_behind, columns_ahead, values_behind, values_ahead, RowOk, CellOk, CellDone}
use Rattle.load.proofs.Lists.{start_in, map_three, total_three, optional_same, joined_end}
use Rattle.load.proofs.Whole.{neg_off, less_off}
use Rattle.load.proofs.Rows.{ahead_is, behind_is, columns_are, columns_count, count_small, start_next, start_mono, right_is, down_is, deeper_is, state_next}
use Rattle.load.proofs.Mirrors.{Across, starts_alike, across_left, across_up, across_shallower}

-- A conductance is 1 to 1,024.
pub conductance_some : (seed : ℕ) (m : Grid) (i j : ℕ) → 0 < conductance_of seed m i j
unfolding conductance_of
conductance_some seed m i j = omega arith

pub conductance_small : (seed : ℕ) (m : Grid) (i j : ℕ) → conductance_of seed m i j ≤ 1024
unfolding conductance_of
conductance_small seed m i j = omega (arith, mod-lt (draw_of seed (face_of m (min i j) (max i j))) {m = 1024} (omega arith))

module _ {seed : ℕ} {e : Extents} {c : Cell} {r : Reached} {offsets : List ℕ} {size : ℕ} {values : List Float}
    (ok : CellOk seed e c r offsets size values) {f : Faces} (a : FacesAre e c.number f) where
  abbrev m : Grid
  m = grid_of e

  abbrev i : ℕ
  i = c.number

  left : f.left ≡ true → Across seed m i 1 (1 + one f.down + one f.deeper)
  left = across_left seed ok.few ok.placed ok.deep a

  up : f.up ≡ true → Across seed m i e.width (1 + one f.deeper)
  up = across_up seed ok.few ok.placed ok.deep a

  shallower : f.shallower ≡ true → Across seed m i (e.width * e.height) 1
  shallower = across_shallower seed ok.few ok.placed ok.deep a

  -- What the row's functions require.
  pub row_ok : RowOk e i f
  row_ok = record {
    cell = omega (arith, ok.small);
    narrow = ok.few.narrow;
    layer = ok.few.layer;
    left = λ t. (left t).behind;
    up = λ t. (up t).behind;
    shallower = λ t. (shallower t).behind;
  }

  -- A mirror's place.
  module _ {stride back : ℕ} (x : Across seed m i stride back) where
    next : i - stride + 1 ≤ i
    next = omega (arith, x.before)

    here : idx offsets (i - stride + 1) ≡ row_start m (i - stride + 1)
    here = ok.starts (i - stride + 1) next

    -- its row has so many entries
    long : back ≤ row_start m (i - stride + 1)
    long =
        let l : length (wholes_in seed m (i - stride)) ≡ length x.left + suc (length x.right) =
        ap length x.row ∙ length-append x.left (off_of seed m i (i - stride) ∷ x.right) in
        let s : start_in (wholes_in seed m) (suc (i - stride)) ≡ start_in (wholes_in seed m) (i - stride) + length (wholes_in seed m (i - stride)) =
        sum_step (λ k. length (wholes_in seed m k)) (i - stride) in
        rw (add-one (i - stride)) (omega (arith, starts_alike seed m (suc (i - stride)), x.many))

    short : row_start m (i - stride + 1) ≤ row_start m i
    short = start_mono m (i - stride + 1) i next

    -- its value
    value : at values (idx offsets (i - stride + 1) - back) ≡ of_int binary64 (off_of seed m i (i - stride))
    value =
        let q = row_start m (i - stride + 1) - back in
        let b = x.many in
        let k : q < row_start m i = omega (arith, long, short) in
        let w : start_in (wholes_in seed m) (suc (i - stride)) - (1 + length x.right) ≡ q =
        rw (starts_alike seed m (suc (i - stride)), add-one (i - stride), b) refl in
        rw here (ok.written q k) ∙ ap (of_int binary64)
        (rw w at (joined_end (wholes_in seed m) i (i - stride) x.left x.right (off_of seed m i (i - stride)) (pos 0) x.before x.row))

  -- The mirrors are there.
  pub mirrors_ok : MirrorsOk e i f offsets (length values)
  mirrors_ok = record { left = one_ok left (omega arith); up = one_ok up (omega arith); shallower = one_ok shallower (omega arith) }
    where
      one_ok : {there : Bool} {stride back : ℕ} → (there ≡ true → Across seed m i stride back) → 0 < back → MirrorOk there i stride back offsets (length values)
      one_ok x some = record {
        behind = λ t. (x t).behind;
        near = λ t. omega (arith, next (x t), ok.near);
        from = λ t. rw (here (x t)) (long (x t));
        to = λ t. rw (here (x t)) (omega (arith, short (x t), start_mono m i (i + 1) (omega arith), ok.places));
        some = some;
      }

  -- A mirror's value, zero where there is no face.
  mirror_value : (there : Bool) (stride back : ℕ) → (there ≡ true → Across seed m i stride back)
      → mirror_at there i stride back offsets values ≡ of_int binary64 (neg_ℤ (pos (cond there (conductance_of seed m i (i - stride)) 0)))
  mirror_value true stride back x = value (x refl)
  mirror_value false stride back x = zero_is

  -- There is room for the row.
  pub room_ok_lem : RoomFor (count_of f) r.end size (length values)
  room_ok_lem =
      let s = start_next m i in
      let n = columns_count a in
      record {
        columns = omega (arith, ok.end, ok.room);
        values = omega (arith, ok.end, ok.places);
      }

  module _ {d : Draws} (drew : DrewAll f seed r.state d) {b : Mirrors} (read : MirrorsAre e i f offsets values b) where
    right : d.right ≡ cond f.right (conductance_of seed m i (i + 1)) 0
    right = right_is seed a ok.state drew

    down : d.down ≡ cond f.down (conductance_of seed m i (i + e.width)) 0
    down = down_is seed a ok.state drew ok.few.wide

    deeper : d.deeper ≡ cond f.deeper (conductance_of seed m i (i + e.width * e.height)) 0
    deeper = deeper_is seed a ok.state drew ok.few.wide ok.few.high

    -- The values behind the diagonal.
    values_behind_lem : map (of_int binary64) (map (off_of seed m i) (m.behind i)) ≡ values_behind f b
    values_behind_lem =
        let g = off_of seed m i in
        ap (λ (l : List ℕ). map (of_int binary64) (map g l)) (behind_is a)
        ∙ ap (map (of_int binary64)) (map_three g f.shallower f.up f.left (i - e.width * e.height) (i - e.width) (i - 1))
        ∙ map_three (of_int binary64) f.shallower f.up f.left (g (i - e.width * e.height)) (g (i - e.width)) (g (i - 1))
        ∙ ap (λ (l : List Float). l ++ (optional f.up (of_int binary64 (g (i - e.width))) ++ optional f.left (of_int binary64 (g (i - 1)))))
        (optional_same f.shallower (of_int binary64 (g (i - e.width * e.height))) b.shallower
        (λ t. sym (value (shallower t)) ∙ sym (read.shallower ∙ there t)))
        ∙ ap (λ (l : List Float). optional f.shallower b.shallower ++ (l ++ optional f.left (of_int binary64 (g (i - 1)))))
        (optional_same f.up (of_int binary64 (g (i - e.width))) b.up (λ t. sym (value (up t)) ∙ sym (read.up ∙ there t)))
        ∙ ap (λ (l : List Float). optional f.shallower b.shallower ++ (optional f.up b.up ++ l))
        (optional_same f.left (of_int binary64 (g (i - 1))) b.left (λ t. sym (value (left t)) ∙ sym (read.left ∙ there t)))
      where
        there : {t : Bool} {x : Float} → t ≡ true → cond t x zero64 ≡ x
        there e = rw e refl

    -- An entry ahead is the negative of what was drawn.
    drawn_off : (t : Bool) (n j : ℕ) → n ≡ cond t (conductance_of seed m i j) 0 → t ≡ true → of_int binary64 (off_of seed m i j) ≡ neg (of_int binary64 (pos n))
    drawn_off true n j e h = rw e (sym (neg_off (conductance_of seed m i j) (conductance_some seed m i j)))
    drawn_off false n j e h = absurd (not_both h refl)

    -- The values ahead of it.
    values_ahead_lem : map (of_int binary64) (map (off_of seed m i) (m.ahead i)) ≡ values_ahead f d
    values_ahead_lem =
        let g = off_of seed m i in
        let x = neg (of_int binary64 (pos d.right)) in
        let y = neg (of_int binary64 (pos d.down)) in
        let z = neg (of_int binary64 (pos d.deeper)) in
        ap (λ (l : List ℕ). map (of_int binary64) (map g l)) (ahead_is a)
        ∙ ap (map (of_int binary64)) (map_three g f.right f.down f.deeper (i + 1) (i + e.width) (i + e.width * e.height))
        ∙ map_three (of_int binary64) f.right f.down f.deeper (g (i + 1)) (g (i + e.width)) (g (i + e.width * e.height))
        ∙ ap (λ (l : List Float). l ++ (optional f.down (of_int binary64 (g (i + e.width))) ++ optional f.deeper (of_int binary64 (g (i + e.width * e.height)))))
        (optional_same f.right (of_int binary64 (g (i + 1))) x (drawn_off f.right d.right (i + 1) right))
        ∙ ap (λ (l : List Float). optional f.right x ++ (l ++ optional f.deeper (of_int binary64 (g (i + e.width * e.height)))))
        (optional_same f.down (of_int binary64 (g (i + e.width))) y (drawn_off f.down d.down (i + e.width) down))
        ∙ ap (λ (l : List Float). optional f.right x ++ (optional f.down y ++ l))
        (optional_same f.deeper (of_int binary64 (g (i + e.width * e.height))) z (drawn_off f.deeper d.deeper (i + e.width * e.height) deeper))

    -- A conductance, or 0, is small.
    small : (t : Bool) (j : ℕ) → cond t (conductance_of seed m i j) 0 ≤ 1024
    small true j = conductance_small seed m i j
    small false j = omega arith

    -- The diagonal.
    own_is : own_sum b d ≡ of_int binary64 (pos (own_of seed m i))
    unfolding own_of
    own_is =
        let k = conductance_of seed m i in
        let x = cond f.left (k (i - 1)) 0 in
        let y = cond f.up (k (i - e.width)) 0 in
        let z = cond f.shallower (k (i - e.width * e.height)) 0 in
        let lx : x ≤ 1024 = small f.left (i - 1) in
        let ly : y ≤ 1024 = small f.up (i - e.width) in
        let lz : z ≤ 1024 = small f.shallower (i - e.width * e.height) in
        let t = 1 + d.right + d.down + d.deeper in
        let first = drew.first in
        let second = drew.second in
        let third = drew.third in
        let p : b.left ≡ of_int binary64 (neg_ℤ (pos x)) = read.left ∙ mirror_value f.left 1 (1 + one f.down + one f.deeper) left in
        let q : b.up ≡ of_int binary64 (neg_ℤ (pos y)) = read.up ∙ mirror_value f.up e.width (1 + one f.deeper) up in
        let s : b.shallower ≡ of_int binary64 (neg_ℤ (pos z)) = read.shallower ∙ mirror_value f.shallower (e.width * e.height) 1 shallower in
        let sum : own_sum b d ≡ of_int binary64 (pos (t + x + y + z)) =
        rw (p, q, s) (rw (less_off t x (omega arith) (omega arith)) (rw (less_off (t + x) y (omega arith) (omega arith)) (less_off (t + x + y) z (omega arith) (omega arith)))) in
        let behind : total k (m.behind i) ≡ z + y + x = ap (total k) (behind_is a)
        ∙ total_three k f.shallower f.up f.left (i - e.width * e.height) (i - e.width) (i - 1) in
        let ahead : total k (m.ahead i) ≡ d.right + d.down + d.deeper = ap (total k) (ahead_is a)
        ∙ total_three k f.right f.down f.deeper (i + 1) (i + e.width) (i + e.width * e.height) ∙ rw (← right, ← down, ← deeper) refl in
        sum ∙ ap (λ (n : ℕ). of_int binary64 (pos n)) (omega arith)

    -- The values of the row.
    pub values_are : map (of_int binary64) (wholes_in seed m i) ≡ values_behind f b ++ (own_sum b d ∷ values_ahead f d)
    unfolding wholes_in
    values_are = map-append (of_int binary64) (map (off_of seed m i) (m.behind i)) (pos (own_of seed m i) ∷ map (off_of seed m i) (m.ahead i))
        ∙ rw (values_behind_lem, values_ahead_lem, ← own_is) refl

    -- The row is laid.
    pub cell_done : {C C' : List ℕ} {F' : List Float} {end : ℕ}
        → Pushed r.end (columns_behind e i f ++ (i ∷ columns_ahead e i f)) (values_behind f b ++ (own_sum b d ∷ values_ahead f d)) C C' values F' end
        → CellDone seed e i r C C' values F' (record { end = end; state = d.state })
    cell_done {end = end} p = record {
      row = rw (columns_are a, values_are) p;
      end = p.end ∙ ap (λ (l : List ℕ). r.end + length l) (sym (columns_are a)) ∙ ap (λ (n : ℕ). n + length (columns_in m i)) ok.end ∙ sym (start_next m i);
      state = state_next seed a ok.state drew;
    }

-- Draws are small.
pub draws_small : {f : Faces} {seed s : ℕ} {d : Draws} → DrewAll f seed s d → DrawsSmall d
draws_small x = record { right = x.first; down = x.second; deeper = x.third }

-- The length of a row by its faces.
pub width_is : {e : Extents} {i : ℕ} {f : Faces} → FacesAre e i f → (s u l r d p n : ℕ)
    → s ≡ one f.shallower → u ≡ one f.up → l ≡ one f.left → r ≡ one f.right → d ≡ one f.down → p ≡ one f.deeper
    → n ≡ s + u + l + 1 + r + d + p → (n ≡ length (columns_in (grid_of e) i)) × (n ≤ 7)
width_is {f = f} a s u l r d p n es eu el er ed ep en =
    (omega (arith, columns_count a), omega (arith, count_small f))
