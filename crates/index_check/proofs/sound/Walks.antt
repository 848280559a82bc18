-- Walks that went through: what their tests tell, and what gives such a walk.
-- Assumes nothing.
use Rattle.index_check.specs.declared.sound.Stop.{Stop}
use Rattle.std.specs.Prelude.{Result, Ok, Err}
use mathlib.Core.Path.{◌≡◌, refl, sym, ap, ◌∙◌}
use mathlib.Core.Bool.{Bool, true, false, not, ◌&&◌}
use mathlib.Core.List.{List}
use Prim.Native.Nat.{ℕ, zero, suc, ◌+◌, ◌-◌, ◌≤◌, ◌<◌, min}
use native.Mathlib.Nat.{not-suc-le-zero}
use native.Mathlib.Omega.{arith}
use lib.Dec.{leb, ltb}
use lib.ListN.{length, drop, length-drop, length-take}
use borrow.Author.Tests.{leb-true, le-leb, not-true}
use Rattle.store.specs.Region.{idx, part}
use Rattle.store.specs.Vector.{each}
use Rattle.store.proofs.store.Each.{both_l, both_r, each_at}
use Rattle.store.proofs.store.Region.{get_d_part, length_part}
use Rattle.hierarchy.specs.Level.{Shape}
use Rattle.pattern.specs.Pattern.{entries}
use Rattle.layout.specs.Layout.{rows_at, last_at, entries_at, faces_at, locate, words_end}
use Rattle.layout.proofs.Places.{ends_above}
use Rattle.index_check.specs.Sound.{all_below, head_sound, shape_in, arrays_sound, row_placed, entries_sound, faces_sound, link_sound, row_sound, go_on, and_then, head_fits, heads_walked, rows_walked, level_walked, targets_of, sums_of, levels_walked, walk_of, stopped_at}
use Rattle.index_check.proofs.sound.Laws.{Head, head_told}

-- ---- tests that hold together

-- Two tests that hold hold together.
both : {a b : Bool} → a ≡ true → b ≡ true → a && b ≡ true
both e f = rw (e, f)

-- Of three tests each.
pub all3 : (a b c : Bool) → a && b && c ≡ true → (a ≡ true) × (b ≡ true) × (c ≡ true)
all3 a b c h = let h2 = both_l (a && b) c h in (both_l a b h2, both_r a b h2, both_r (a && b) c h)

-- Of six tests each.
pub all6 : (a b c d e f : Bool) → a && b && c && d && e && f ≡ true
    → (a ≡ true) × (b ≡ true) × (c ≡ true) × (d ≡ true) × (e ≡ true) × (f ≡ true)
all6 a b c d e f h =
    let h5 = both_l (a && b && c && d && e) f h in
    let h4 = both_l (a && b && c && d) e h5 in
    let h3 = both_l (a && b && c) d h4 in
    let t = all3 a b c h3 in
    (t.0, t.1, t.2, both_r (a && b && c) d h4, both_r (a && b && c && d) e h5, both_r (a && b && c && d && e) f h)

-- What holds at each index holds of all.
pub each_all : (q : ℕ → Bool) (n : ℕ) → ((k : ℕ) → k < n → q k ≡ true) → each q n ≡ true
unfolding each
each_all q zero e = refl
each_all q (suc n) e = rw (each_all q n (λ k h. e k (omega arith)), e n (omega arith))

-- ---- runs of a table

-- A run of a table is as long as it asks, or as what is left of the table.
length_run : (from n : ℕ) (v : List ℕ) → length (part from n v) ≡ min n (length v - from)
unfolding part
length_run from n v = length-take n (drop from v) ∙ rw length-drop

-- Each run of a table that is below a bound is.
pub below_run : (bound from n : ℕ) (v : List ℕ) → all_below bound v ≡ true → all_below bound (part from n v) ≡ true
unfolding all_below
below_run bound from n v e =
    let long = length_run from n v in
    each_all (λ k. ltb (idx (part from n v) k) bound) (length (part from n v))
    (λ k h. rw (get_d_part from n v k 0 (omega arith)) (each_at (λ k. ltb (idx v k) bound) (length v) e (from + k) (omega arith)))

-- A run that starts where the table has ended has nothing in it.
pub below_past : (bound from n : ℕ) (v : List ℕ) → length v ≤ from → all_below bound (part from n v) ≡ true
unfolding all_below each
below_past bound from n v h =
    let long = length_run from n v in
    let none : length (part from n v) ≡ 0 = omega arith in
    rw none

-- Numbers that never fall reach the last.
climb : (f : ℕ → ℕ) (rows d k : ℕ) → ((k : ℕ) → k < rows → f k ≤ f (k + 1)) → k + d ≡ rows → f k ≤ f rows
climb f rows zero k step e =
    let z : f k ≡ f rows = ap f (omega arith) in
    omega arith
climb f rows (suc d) k step e =
    let one = step k (omega arith) in
    let more = climb f rows d (k + 1) step (omega arith) in
    omega arith

-- So each but the first is at most the last.
pub reach : (f : ℕ → ℕ) (rows : ℕ) → ((k : ℕ) → k < rows → f k ≤ f (k + 1)) → (k : ℕ) → k < rows → f (k + 1) ≤ f rows
reach f rows step k h = climb f rows (rows - (k + 1)) (k + 1) step (omega arith)

-- ---- rows

module _ (targets sums : ℕ) (s : Shape) where
  -- A sound row stands in order.
  pub row_placed_lem : (row : ℕ) → row_sound targets sums s row ≡ true → row_placed s row ≡ true
  unfolding row_sound
  row_placed_lem row e =
      let entry = entries_sound sums s (idx s.pattern.offsets row) (idx s.pattern.offsets (row + 1)) in
      let face = faces_sound s (idx s.starts row) (idx s.starts (row + 1)) in
      (all3 (row_placed s row) entry face (both_l (row_placed s row && entry && face) (link_sound targets s row) e)).0

  -- Where offsets and starts end with the entries and the faces, all tables are below their bounds and all rows stand in order, each row is
  -- sound.
  pub rows_sound : idx s.pattern.offsets s.pattern.rows ≡ entries s.pattern → idx s.starts s.pattern.rows ≡ length s.neighbors
      → arrays_sound targets sums s ≡ true → ((k : ℕ) → k < s.pattern.rows → row_placed s k ≡ true)
      → (row : ℕ) → row < s.pattern.rows → row_sound targets sums s row ≡ true
  unfolding arrays_sound row_placed entries_sound faces_sound link_sound row_sound
  rows_sound ends ends' arrays placed row h =
      let n = s.pattern.rows in
      let offsets = s.pattern.offsets in
      let starts = s.starts in
      let t = all6 (all_below n s.pattern.columns) (all_below n s.neighbors) (all_below (entries s.pattern) s.uppers)
      (all_below (entries s.pattern) s.lowers) (all_below targets s.links) (all_below sums s.positions) arrays in
      let split : (k : ℕ) → k < n → (leb (idx offsets k) (idx offsets (k + 1)) ≡ true) × (leb (idx starts k) (idx starts (k + 1)) ≡ true)
      × (ltb (idx s.diagonals k) (entries s.pattern) ≡ true) =
      λ k l. all3 (leb (idx offsets k) (idx offsets (k + 1))) (leb (idx starts k) (idx starts (k + 1))) (ltb (idx s.diagonals k) (entries s.pattern)) (placed k l) in
      let to = reach (idx offsets) n (λ k l. leb-true (idx offsets k) (idx offsets (k + 1)) (split k l).0) row h in
      let to' = reach (idx starts) n (λ k l. leb-true (idx starts k) (idx starts (k + 1)) (split k l).1) row h in
      let from = idx offsets row in
      let from' = idx starts row in
      let m = idx offsets (row + 1) - from in
      let m' = idx starts (row + 1) - from' in
      both (both (both (placed row h)
      (both (both (le-leb (idx offsets (row + 1)) (entries s.pattern) (omega arith)) (below_run n from m s.pattern.columns t.0))
      (below_run sums from m s.positions t.5)))
      (both (both (both (le-leb (idx starts (row + 1)) (length s.neighbors) (omega arith)) (below_run n from' m' s.neighbors t.1))
      (below_run (entries s.pattern) from' m' s.uppers t.2)) (below_run (entries s.pattern) from' m' s.lowers t.3)))
      (below_run targets row 1 s.links t.4)

-- ---- walks

-- A test that did not end the walk holds, and the rest went through.
pub go_on_lem : (t : Bool) (level row : ℕ) (rest : Result Unit Stop) → go_on t (stopped_at level row) rest ≡ Ok tt → (t ≡ true) × (rest ≡ Ok tt)
go_on_lem true level row rest e = (refl, e)
go_on_lem false level row rest e = let none : ◌≡◌ {A = ℕ} 0 1 = cc in absurd (omega arith)

-- Of two walks each went through.
pub and_then_lem : (v rest : Result Unit Stop) → and_then v rest ≡ Ok tt → (v ≡ Ok tt) × (rest ≡ Ok tt)
and_then_lem (Ok tt) rest e = (refl, e)
and_then_lem (Err s) rest e = let none : ◌≡◌ {A = ℕ} 0 1 = cc in absurd (omega arith)

-- Each row of those walked is sound.
pub row_at : (targets sums : ℕ) (s : Shape) (level more row : ℕ) → rows_walked targets sums s level more row ≡ Ok tt → (k : ℕ) → k < more
    → row_sound targets sums s (row + k) ≡ true
unfolding rows_walked
row_at targets sums s level zero row e k h = absurd (not-suc-le-zero h)
row_at targets sums s level (suc more) row e zero h =
    let z : row ≡ row + 0 = omega arith in
    rw z at (go_on_lem (row_sound targets sums s row) level row (rows_walked targets sums s level more (row + 1)) e).0
row_at targets sums s level (suc more) row e (suc k) h =
    let z : row + 1 + k ≡ row + suc k = omega arith in
    rw z at (row_at targets sums s level more (row + 1) (go_on_lem (row_sound targets sums s row) level row (rows_walked targets sums s level more (row + 1)) e).1 k (omega arith))

-- So many rows that are sound are walked.
pub rows_walked_lem : (targets sums : ℕ) (s : Shape) (level more row : ℕ) → ((i : ℕ) → row ≤ i → i < row + more → row_sound targets sums s i ≡ true)
    → rows_walked targets sums s level more row ≡ Ok tt
unfolding rows_walked
rows_walked_lem targets sums s level zero row all = refl
rows_walked_lem targets sums s level (suc more) row all =
    rw (all row (omega arith) (omega arith)) (rows_walked_lem targets sums s level more (row + 1) (λ i l h. all i (omega arith) (omega arith)))

-- ---- a head

-- whether a level after which so many come is the last
abbrev pub ends_of : ℕ → Bool
ends_of zero = true
ends_of (suc more) = false

module _ (w : List ℕ) (a : ℕ) where
  -- A head that fits is sound,
  pub fits_head : (more : ℕ) → head_fits more w a ≡ true → head_sound w a ≡ true
  fits_head zero e = both_l (head_sound w a) (last_at w a) e
  fits_head (suc more) e = both_l (head_sound w a) (not (last_at w a)) e

  -- and the last alone is terminal.
  pub fits_last : (more : ℕ) → head_fits more w a ≡ true → last_at w a ≡ ends_of more
  fits_last zero e = both_r (head_sound w a) (last_at w a) e
  fits_last (suc more) e = not-true (last_at w a) (both_r (head_sound w a) (not (last_at w a)) e)

  -- Such a head fits.
  pub head_fits_lem : (more : ℕ) → head_sound w a ≡ true → last_at w a ≡ ends_of more → head_fits more w a ≡ true
  head_fits_lem zero e l = rw (e, l)
  head_fits_lem (suc more) e l = rw (e, l)

-- The shape of a level with a sound head has the entries and the faces that its offsets and its starts end with.
module _ (w : List ℕ) (a : ℕ) (head : Head w a) where
  -- the entries,
  pub as_many : entries (shape_in w a).pattern ≡ entries_at w a
  as_many =
      let h = ends_above w a refl refl refl head.ends in
      length_part (locate w a 0).columns (entries_at w a) w (omega arith)

  pub entries_end : idx (shape_in w a).pattern.offsets (rows_at w a) ≡ entries (shape_in w a).pattern
  entries_end = get_d_part (a + 3) (rows_at w a + 1) w (rows_at w a) 0 (omega arith) ∙ sym as_many

  -- and the faces.
  pub faces_end : idx (shape_in w a).starts (rows_at w a) ≡ length (shape_in w a).neighbors
  faces_end =
      let h = ends_above w a refl refl refl head.ends in
      get_d_part (locate w a 0).starts (rows_at w a + 1) w (rows_at w a) 0 (omega arith)
      ∙ sym (length_part (locate w a 0).neighbors (faces_at w a) w (omega arith))

-- ---- levels

-- A level is walked where its tables are below their bounds and its rows stand in order.
pub level_walked_lem : (w : List ℕ) (a targets sums level : ℕ) → head_sound w a ≡ true → arrays_sound targets sums (shape_in w a) ≡ true
    → ((k : ℕ) → k < rows_at w a → row_placed (shape_in w a) k ≡ true) → level_walked targets sums (shape_in w a) level ≡ Ok tt
level_walked_lem w a targets sums level head arrays placed =
    let h = head_told w a head in
    let rows : rows_walked targets sums (shape_in w a) level (rows_at w a) 0 ≡ Ok tt =
    rows_walked_lem targets sums (shape_in w a) level (rows_at w a) 0
    (λ i _ l. rows_sound targets sums (shape_in w a) (entries_end w a h) (faces_end w a h) arrays placed i (omega arith)) in
    rw (rows, arrays)

-- A walk through a level and those after it: its head fits, its rows were walked, and so were those.
pub record Opened (more : ℕ) (w : List ℕ) (level a : ℕ) : Type 0 where
  pub head : head_fits more w a ≡ true
  pub here : level_walked (targets_of more w a) (sums_of more w a) (shape_in w a) level ≡ Ok tt
  pub rest : walk_of more w (level + 1) (words_end w a) ≡ Ok tt

-- So the walk tells,
pub opened : (more : ℕ) (w : List ℕ) (level a : ℕ) → walk_of (suc more) w level a ≡ Ok tt → Opened more w level a
unfolding walk_of heads_walked levels_walked
opened more w level a e =
    let heads = heads_walked more w (level + 1) (words_end w a) in
    let levels = levels_walked more w (level + 1) (words_end w a) in
    let here = level_walked (targets_of more w a) (sums_of more w a) (shape_in w a) level in
    let t = and_then_lem (go_on (head_fits more w a) (stopped_at level 0) heads) (and_then here levels) e in
    let h = go_on_lem (head_fits more w a) level 0 heads t.0 in
    let r = and_then_lem here levels t.1 in
    record { head = h.0; here = r.0; rest = rw h.1 r.1 }

-- and so it is told.
pub walk_closed : (more : ℕ) (w : List ℕ) (level a : ℕ) → Opened more w level a → walk_of (suc more) w level a ≡ Ok tt
unfolding walk_of heads_walked levels_walked
walk_closed more w level a o =
    let t = and_then_lem (heads_walked more w (level + 1) (words_end w a)) (levels_walked more w (level + 1) (words_end w a)) o.rest in
    rw (o.head, t.0, o.here, t.1)

-- No level is walked.
pub walk_none : (w : List ℕ) (level a : ℕ) → walk_of 0 w level a ≡ Ok tt
unfolding walk_of heads_walked levels_walked
walk_none w level a = refl
