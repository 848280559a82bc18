-- What the index check tells of a level that it passed: bounds on its sizes and on each of its words, and the levels after it.
-- Assumes nothing.
use Rattle.std.specs.Prelude.{Ok}
use mathlib.Core.Path.{◌≡◌, ap, ◌∙◌}
use mathlib.Core.Bool.{Bool, true, false, cond}
use mathlib.Core.List.{List}
use Prim.Native.Nat.{ℕ, suc, ◌+◌, ◌≤◌, ◌<◌}
use native.Mathlib.Nat.{not-suc-le-zero}
use native.Mathlib.Omega.{arith}
use lib.Dec.{leb, ltb}
use lib.ListN.{length}
use borrow.Author.Tests.{leb-true, ltb-true}
use Rattle.store.specs.Region.{idx, part}
use Rattle.store.proofs.store.Each.{each_at}
use Rattle.store.proofs.store.Region.{get_d_part, length_part}
use Rattle.pattern.specs.Pattern.{entries}
use Rattle.layout.specs.declared.Place.{Place}
use Rattle.layout.specs.Layout.{rows_at, last_at, coupled_at, entries_at, faces_at, locate, words_end}
use Rattle.index_check.specs.Sound.{all_below, shape_in, arrays_sound, row_placed, go_on, rows_walked, walk_of, stopped_at}
pub use Rattle.index_check.specs.Sound.{targets_of, sums_of}
use Rattle.index_check.proofs.sound.Laws.{Head, head_told}
use Rattle.index_check.proofs.sound.Walks.{all3, all6, reach, row_placed_lem, go_on_lem, and_then_lem, row_at, fits_head, fits_last, as_many, opened}
pub use Rattle.index_check.proofs.sound.Walks.{ends_of}

-- The level at a: its sizes, where its words end, and the bound of each of its words. Its links are below `targets`, its positions
-- below `sums`.
pub record Here (w : List ℕ) (a targets sums : ℕ) : Type 0 where
  pub words : words_end w a ≤ length w
  pub most : rows_at w a ≤ 65536
  pub many : entries_at w a ≤ 1048576
  pub fewer : faces_at w a ≤ entries_at w a
  pub few : coupled_at w a ≤ rows_at w a
  pub heads : (locate w a 0).links ≤ length w
  pub linked : (locate w a 0).links + cond (last_at w a) (coupled_at w a) (rows_at w a) ≤ length w
  pub placed : (locate w a 0).positions + cond (last_at w a) 0 (entries_at w a) ≤ length w + cond (last_at w a) (rows_at w a) 0
  pub offsets : (k : ℕ) → k < rows_at w a → idx w ((locate w a 0).offsets + k + 1) ≤ idx w ((locate w a 0).offsets + rows_at w a)
  pub starts : (k : ℕ) → k < rows_at w a → idx w ((locate w a 0).starts + k + 1) ≤ idx w ((locate w a 0).starts + rows_at w a)
  pub diagonals : (k : ℕ) → k < rows_at w a → idx w ((locate w a 0).diagonals + k) < entries_at w a
  pub columns : (k : ℕ) → k < entries_at w a → idx w ((locate w a 0).columns + k) < rows_at w a
  pub neighbors : (k : ℕ) → k < faces_at w a → idx w ((locate w a 0).neighbors + k) < rows_at w a
  pub uppers : (k : ℕ) → k < faces_at w a → idx w ((locate w a 0).uppers + k) < entries_at w a
  pub lowers : (k : ℕ) → k < faces_at w a → idx w ((locate w a 0).lowers + k) < entries_at w a
  pub links : (k : ℕ) → k < cond (last_at w a) (coupled_at w a) (rows_at w a) → idx w ((locate w a 0).links + k) < targets
  pub positions : (k : ℕ) → k < cond (last_at w a) 0 (entries_at w a) → idx w ((locate w a 0).positions + k) < sums

-- ---- lists

-- Each number of a region is below the bound.
below_at_lem : (bound base n : ℕ) (w : List ℕ) → base + n ≤ length w → all_below bound (part base n w) ≡ true → (k : ℕ) → k < n → idx w (base + k) < bound
unfolding all_below
below_at_lem bound base n w h e k l =
    let long : length (part base n w) ≡ n = length_part base n w h in
    let t : ltb (idx (part base n w) k) bound ≡ true =
    each_at (λ k. ltb (idx (part base n w) k) bound) (length (part base n w)) e k (omega arith) in
    let is : idx (part base n w) k ≡ idx w (base + k) = get_d_part base n w k 0 l in
    let b : idx (part base n w) k < bound = ltb-true (idx (part base n w) k) bound t in
    omega arith

-- Numbers of a table that never fall are at most the last.
reach_at : (w : List ℕ) (base rows : ℕ) → ((k : ℕ) → k < rows → idx w (base + k) ≤ idx w (base + k + 1)) → (k : ℕ) → k < rows
    → idx w (base + k + 1) ≤ idx w (base + rows)
reach_at w base rows step k h =
    let z : (k : ℕ) → idx w (base + (k + 1)) ≡ idx w (base + k + 1) = λ k. ap (idx w) (omega arith) in
    rw (z k) at (reach (λ i. idx w (base + i)) rows (λ k h. rw (z k) (step k h)) k h)

-- ---- one level

-- where the links and the positions of a level end
record Ends (e links coupled rows entries : ℕ) (last : Bool) : Type 0 where
  before : links ≤ e
  linked : links + cond last coupled rows ≤ e
  placed : links + rows + cond last 0 entries ≤ e + cond last rows 0

-- By the two cases,
ends : (e links coupled rows entries : ℕ) (last : Bool) → cond last (links + coupled) (links + rows + entries) ≤ e
    → Ends e links coupled rows entries last
ends e links coupled rows entries true h = record { before = omega arith; linked = h; placed = omega arith }
ends e links coupled rows entries false h = record { before = omega arith; linked = omega arith; placed = omega arith }

-- and of the level at a.
ends_of_lem : (w : List ℕ) (a : ℕ) → words_end w a ≤ length w → Ends (length w) (locate w a 0).links (coupled_at w a) (rows_at w a) (entries_at w a) (last_at w a)
unfolding words_end
ends_of_lem w a h = ends (length w) (locate w a 0).links (coupled_at w a) (rows_at w a) (entries_at w a) (last_at w a) h

-- Positions, where there are any, are below the bound.
positions_at : (bound base rows n : ℕ) (last : Bool) (w : List ℕ) → base + cond last 0 n ≤ length w + cond last rows 0
    → all_below bound (part base (cond last 0 n) w) ≡ true → (k : ℕ) → k < cond last 0 n → idx w (base + k) < bound
positions_at bound base rows n true w h e k l = absurd (not-suc-le-zero l)
positions_at bound base rows n false w h e k l = below_at_lem bound base n w (omega arith) e k l

module _ (w : List ℕ) (a : ℕ) (head : Head w a) where
  -- its place and its rows
  abbrev p : Place
  p = locate w a 0

  abbrev rows : ℕ
  rows = rows_at w a

  -- its words end in the store
  ended : Ends (length w) p.links (coupled_at w a) rows (entries_at w a) (last_at w a)
  ended = ends_of_lem w a head.ends

  -- What a row that stands in order tells,
  row_of_lem : (k : ℕ) → k < rows → row_placed (shape_in w a) k ≡ true
      → (idx w (p.offsets + k) ≤ idx w (p.offsets + k + 1)) × (idx w (p.starts + k) ≤ idx w (p.starts + k + 1)) × (idx w (p.diagonals + k) < entries_at w a)
  unfolding row_placed
  row_of_lem k h e =
      let s = shape_in w a in
      let t = all3 (leb (idx s.pattern.offsets k) (idx s.pattern.offsets (k + 1))) (leb (idx s.starts k) (idx s.starts (k + 1)))
      (ltb (idx s.diagonals k) (entries s.pattern)) e in
      let o0 : idx s.pattern.offsets k ≡ idx w (p.offsets + k) = get_d_part p.offsets (rows + 1) w k 0 (omega arith) in
      let o1 : idx s.pattern.offsets (k + 1) ≡ idx w (p.offsets + k + 1) =
      get_d_part p.offsets (rows + 1) w (k + 1) 0 (omega arith) ∙ ap (idx w) (omega arith) in
      let s0 : idx s.starts k ≡ idx w (p.starts + k) = get_d_part p.starts (rows + 1) w k 0 (omega arith) in
      let s1 : idx s.starts (k + 1) ≡ idx w (p.starts + k + 1) =
      get_d_part p.starts (rows + 1) w (k + 1) 0 (omega arith) ∙ ap (idx w) (omega arith) in
      let d0 : idx s.diagonals k ≡ idx w (p.diagonals + k) = get_d_part p.diagonals rows w k 0 h in
      let h0 = leb-true (idx s.pattern.offsets k) (idx s.pattern.offsets (k + 1)) t.0 in
      let h1 = leb-true (idx s.starts k) (idx s.starts (k + 1)) t.1 in
      let h2 = ltb-true (idx s.diagonals k) (entries s.pattern) t.2 in
      let m = as_many w a head in
      (omega arith, omega arith, omega arith)

  module _ (level targets sums : ℕ) (arrays : arrays_sound targets sums (shape_in w a) ≡ true)
      (walked : rows_walked targets sums (shape_in w a) level rows 0 ≡ Ok tt) where
    -- of each row.
    row_is : (k : ℕ) → k < rows
        → (idx w (p.offsets + k) ≤ idx w (p.offsets + k + 1)) × (idx w (p.starts + k) ≤ idx w (p.starts + k + 1)) × (idx w (p.diagonals + k) < entries_at w a)
    row_is k h =
        let z : 0 + k ≡ k = omega arith in
        row_of_lem k h (row_placed_lem targets sums (shape_in w a) k (rw z at (row_at targets sums (shape_in w a) level rows 0 walked k h)))

    -- The bounds of the arrays, one by one.
    arrays_are : (all_below rows (part p.columns p.entries w) ≡ true) × (all_below rows (part p.neighbors p.faces w) ≡ true)
        × (all_below (entries_at w a) (part p.uppers p.faces w) ≡ true) × (all_below (entries_at w a) (part p.lowers p.faces w) ≡ true)
        × (all_below targets (part p.links (cond (last_at w a) (coupled_at w a) rows) w) ≡ true)
        × (all_below sums (part p.positions (cond (last_at w a) 0 p.entries) w) ≡ true)
    unfolding arrays_sound
    arrays_are =
        let s = shape_in w a in
        let a1 = all_below s.pattern.rows s.pattern.columns in
        let a2 = all_below s.pattern.rows s.neighbors in
        let a3 = all_below (entries s.pattern) s.uppers in
        let a4 = all_below (entries s.pattern) s.lowers in
        let a5 = all_below targets s.links in
        let a6 = all_below sums s.positions in
        let t = all6 a1 a2 a3 a4 a5 a6 arrays in
        (t.0, t.1, rw (as_many w a head) at t.2, rw (as_many w a head) at t.3, t.4, t.5)

    -- A level that the walk passed.
    here : Here w a targets sums
    here =
        let e = ended in
        let b = e.before in
        let t = arrays_are in
        record {
          words = head.ends;
          most = head.rows;
          many = head.entries;
          fewer = head.faces;
          few = head.coupled;
          heads = e.before;
          linked = e.linked;
          placed = e.placed;
          offsets = reach_at w p.offsets rows (λ k h. (row_is k h).0);
          starts = reach_at w p.starts rows (λ k h. (row_is k h).1);
          diagonals = λ k h. (row_is k h).2;
          columns = below_at_lem rows p.columns p.entries w (omega arith) t.0;
          neighbors = below_at_lem rows p.neighbors p.faces w (omega arith) t.1;
          uppers = below_at_lem (entries_at w a) p.uppers p.faces w (omega arith) t.2;
          lowers = below_at_lem (entries_at w a) p.lowers p.faces w (omega arith) t.3;
          links = below_at_lem targets p.links (cond (last_at w a) (coupled_at w a) rows) w e.linked t.4;
          positions = positions_at sums p.positions rows p.entries (last_at w a) w e.placed t.5;
        }

-- ---- the levels

-- The level at a, after which so many come, and those.
pub record Passed (more : ℕ) (w : List ℕ) (level a : ℕ) : Type 0 where
  pub last : last_at w a ≡ ends_of more
  pub here : Here w a (targets_of more w a) (sums_of more w a)
  pub rest : walk_of more w (level + 1) (words_end w a) ≡ Ok tt

-- A walk that went through tells the first level and the rest.
pub passed : (more : ℕ) {w : List ℕ} {level a : ℕ} → walk_of (suc more) w level a ≡ Ok tt → Passed more w level a
passed more {w} {level} {a} e =
    let o = opened more w level a e in
    let targets = targets_of more w a in
    let sums = sums_of more w a in
    let t = and_then_lem (rows_walked targets sums (shape_in w a) level (rows_at w a) 0)
    (go_on (arrays_sound targets sums (shape_in w a)) (stopped_at level 0) (Ok tt)) o.here in
    let arrays = (go_on_lem (arrays_sound targets sums (shape_in w a)) level 0 (Ok tt) t.1).0 in
    let head = head_told w a (fits_head w a more o.head) in
    record { last = fits_last w a more o.head; here = here w a head level targets sums arrays t.0; rest = o.rest }
