-- Cell after cell. Assumes nothing.
use Rattle.std.proofs.Common.{◌≡◌, ℕ, zero, suc, ◌+◌, ◌*◌, ◌<◌, ◌≤◌, List, [], ◌∷◌, ◌++◌, map, length, get_or, set, pos, sym, refl, ap, ◌∙◌, ⊎_elim, mul_assoc, mul-le-mul_left, zero-add, add-one, arith, length-set}
use mathlib.Core.List.{map-append}
use lib.ListN.{length-map, get_or-map}
use lib.Ieee.{Float, nan, binary64, of_int}
use Rattle.store.specs.Region.{at, idx, splice}
use Rattle.store.specs.Vector.{tab}
use Rattle.store.proofs.store.Region.{le_or_lt, splice_nil, get_d_splice_in, set_splice_end}
use Rattle.store.proofs.store.Vector.{length_tab, get_d_tab}
use Rattle.pattern.specs.Pattern.{sum_to}
use Rattle.load.specs.declared.cells.Extents.{Extents}
use Rattle.load.specs.declared.cells.Cell.{Cell}
use Rattle.load.specs.declared.cells.Place.{Place}
use Rattle.load.specs.declared.laying.Reached.{Reached}
use Rattle.load.specs.Box.{Grid}
use Rattle.load.specs.Draw.{state_of}
use Rattle.load.specs.Load.{joined, draws_before, columns_in, wholes_in, row_start}
use Rattle.load.specs.Steps.{grid_of, Few, Placed, Pushed, CellOk, CellDone, CellsOk, CellsDone}
use Rattle.load.proofs.Lists.{length_joined}
use Rattle.load.proofs.Rows.{start_next, start_mono, start_small}
use Rattle.load.proofs.Mirrors.{starts_alike}
use Rattle.load.proofs.laying.Pushes.{pushed_on}

-- A cell of the box stands in one of its layers.
pub deep_is : {e : Extents} {c : Cell} {cells : ℕ} → Placed e c → cells ≡ e.width * e.height * e.depth → c.number < cells → c.z < e.depth
deep_is {e} {c} {cells} placed all h = ⊎_elim
    (λ (k : e.depth ≤ c.z).
    let p = mul-le-mul_left e.height k in
    let q : e.width * (e.height * e.depth) ≤ e.width * (c.y + e.height * c.z) = mul-le-mul_left e.width (omega arith) in
    absurd (omega (arith, mul_assoc e.width e.height e.depth, placed.number)))
    (λ (k : c.z < e.depth). k)
    (le_or_lt e.depth c.z)

-- A place in the box stands in it.
pub placed_in : {e : Extents} (p : Place) → p.extents ≡ e → Placed e p.cell
placed_in p box = rw box at p.placed

-- So one with a cell's number stands in one of its layers.
pub deep_at : {e : Extents} {cells : ℕ} (p : Place) → p.extents ≡ e → cells ≡ e.width * e.height * e.depth → p.cell.number < cells
    → p.cell.z < p.extents.depth
deep_at p box all h = rw box (deep_is (placed_in p box) all h)

-- ---- counting

-- The entries of the cells before a place are counted.
pub record Counting (e : Extents) (cells entries : ℕ) (p : Place) (i : ℕ) : Type 0 where
  pub box : p.extents ≡ e
  pub number : p.cell.number ≡ i
  pub within : i ≤ cells
  pub counted : entries ≡ row_start (grid_of e) i
  pub small : entries ≤ 7 * i
  pub few : cells ≤ 65536

pub counting_start : {e : Extents} {cells : ℕ} {p : Place} → Few e → cells ≡ e.width * e.height * e.depth → p.extents ≡ e → p.cell.number ≡ 0
    → Counting e cells 0 p 0
unfolding row_start sum_to
counting_start few all box first = record {
  box = box;
  number = first;
  within = omega arith;
  counted = refl;
  small = omega arith;
  few = omega (arith, few.cells);
}

pub counting_on : {e : Extents} {cells entries i w : ℕ} {p q : Place} → Counting e cells entries p i → i < cells
    → w ≡ length (columns_in (grid_of p.extents) p.cell.number) → q.extents ≡ p.extents → q.cell.number ≡ p.cell.number + 1
    → Counting e cells (entries + w) q (i + 1)
counting_on {e} {cells} {entries} {i} {w} {p} {q} k h width box next =
    let n : w ≡ length (columns_in (grid_of e) i) =
    width ∙ ap (λ (x : Extents). length (columns_in (grid_of x) p.cell.number)) k.box ∙ ap (λ (j : ℕ). length (columns_in (grid_of e) j)) k.number in
    let s : entries + w ≡ row_start (grid_of e) (i + 1) = omega (arith, k.counted, start_next (grid_of e) i) in
    record {
      box = box ∙ k.box;
      number = omega (arith, k.number);
      within = omega arith;
      counted = s;
      small = omega (arith, start_small e (i + 1));
      few = k.few;
    }

-- ---- laying

-- Within a list what stands past its end does not matter.
pub get_d_in : {A : Type 0} (l : List A) (k : ℕ) (d d' : A) → k < length l → get_or l k d ≡ get_or l k d'
get_d_in [] k d d' h = absurd (omega arith)
get_d_in (x ∷ l) zero d d' h = refl
get_d_in (x ∷ l) (suc k) d d' h = get_d_in l k d d' (omega arith)

-- The rows of the cells before a place are laid.
pub record Laying (seed : ℕ) (e : Extents) (cells : ℕ) (O O' C C' : List ℕ) (F F' : List Float) (r : Reached) (p : Place) (i : ℕ) : Type 0 where
  pub box : p.extents ≡ e
  pub number : p.cell.number ≡ i
  pub within : i ≤ cells
  pub done : CellsDone seed e i O O' C C' F F' r
  pub short : r.end ≤ 7 * i
  pub few : cells ≤ 65536

pub laying_start : {seed : ℕ} {e : Extents} {cells : ℕ} {p : Place} {O C : List ℕ} {F : List Float} → CellsOk e cells (length O) (length C) (length F)
    → p.extents ≡ e → p.cell.number ≡ 0 → Laying seed e cells O O C C F F (record { end = 0; state = seed }) p 0
unfolding row_start sum_to joined tab draws_before state_of
laying_start {O = O} {C = C} {F = F} ok box first = record {
  box = box;
  number = first;
  within = omega arith;
  done = record {
    offsets = sym (splice_nil 0 O);
    rows = record { columns = sym (splice_nil 0 C); values = sym (splice_nil 0 F); end = refl; same = refl; size_c = refl; size_f = refl };
    end = refl;
    state = refl;
    size = refl;
  };
  short = omega arith;
  few = omega (arith, ok.all, ok.few.cells);
}

module _ {seed : ℕ} {e : Extents} {cells : ℕ} {O O' C C' : List ℕ} {F F' : List Float} {r : Reached} {p : Place} {i : ℕ}
    (ok : CellsOk e cells (length O) (length C) (length F)) (k : Laying seed e cells O O' C C' F F' r p i) (h : i < cells) where
  abbrev m : Grid
  m = grid_of e

  -- The offset of this row, written.
  offset_written : set O' i r.end ≡ splice 0 (tab (row_start m) (i + 1)) O
  unfolding tab
  offset_written =
      let w = set_splice_end 0 (tab (row_start m) i) O r.end in
      let n : 0 + length (tab (row_start m) i) ≡ i = omega (arith, length_tab (row_start m) i) in
      ap (λ (l : List ℕ). set l i r.end) k.done.offsets
      ∙ ap (λ (j : ℕ). set (splice 0 (tab (row_start m) i) O) j r.end) (sym n) ∙ w
      ∙ ap (λ (v : ℕ). splice 0 (tab (row_start m) i ++ (v ∷ [])) O) k.done.end
      ∙ ap (λ (j : ℕ). splice 0 (tab (row_start m) j) O) (sym (add-one i))

  -- What the next cell's row requires.
  pub cell_ok : CellOk seed p.extents p.cell r (set O' i r.end) (length C') F'
  cell_ok =
      let n = k.number in
      let room : row_start m (p.cell.number + 1) ≤ row_start m cells = start_mono m (p.cell.number + 1) cells (omega arith) in
      let done = k.done in
      rw k.box (record {
        few = ok.few;
        placed = placed_in p k.box;
        deep = deep_is (placed_in p k.box) ok.all (omega arith);
        small = omega (arith, k.few);
        end = done.end ∙ ap (row_start m) (sym n);
        state = done.state ∙ ap (λ (j : ℕ). state_of seed (draws_before m j)) (sym n);
        near = omega (arith, length-set O' i r.end, done.size, ok.offsets);
        room = omega (arith, done.rows.size_c, ok.room);
        places = omega (arith, done.rows.size_f, ok.places);
        starts = λ j l.
            let a : j < i + 1 = omega arith in
            let b : j < length (tab (row_start m) (i + 1)) = omega (arith, length_tab (row_start m) (i + 1)) in
            let q : 0 + j < length O = omega (arith, ok.offsets) in
            ap (λ (v : List ℕ). idx v j) offset_written
            ∙ ap (idx (splice 0 (tab (row_start m) (i + 1)) O)) (sym (zero-add j))
            ∙ get_d_splice_in 0 (tab (row_start m) (i + 1)) O j 0 b q ∙ get_d_tab (row_start m) (i + 1) j 0 a;
        written = λ q l.
            let rows = joined (wholes_in seed m) i in
            let a : q < row_start m i = rw n at l in
            let lr : length rows ≡ row_start m i = length_joined (wholes_in seed m) i ∙ starts_alike seed m i in
            let lm : length (map (of_int binary64) rows) ≡ length rows = length-map rows (of_int binary64) in
            let s = start_mono m i cells (omega arith) in
            let b : q < length (map (of_int binary64) rows) = omega arith in
            let p : 0 + q < length F = omega (arith, ok.places) in
            ap (λ (v : List Float). at v q) done.rows.values
            ∙ ap (at (splice 0 (map (of_int binary64) rows) F)) (sym (zero-add q))
            ∙ get_d_splice_in 0 (map (of_int binary64) rows) F q nan b p
            ∙ get_d_in (map (of_int binary64) rows) q nan (of_int binary64 (pos 0)) b
            ∙ get_or-map (of_int binary64) rows q (pos 0)
            ∙ ap (λ (j : ℕ). of_int binary64 (get_or (joined (wholes_in seed m) j) q (pos 0))) (sym n);
      })

  -- One cell more.
  pub laying_on : {C'' : List ℕ} {F'' : List Float} {s : Reached} {q : Place} → CellDone seed p.extents p.cell.number r C' C'' F' F'' s
      → q.extents ≡ p.extents → q.cell.number ≡ p.cell.number + 1 → Laying seed e cells O (set O' i r.end) C C'' F F'' s q (i + 1)
  unfolding joined
  laying_on {C''} {F''} {s} {q} cell box next =
      let n = k.number in
      let x : CellDone seed e p.cell.number r C' C'' F' F'' s = rw k.box at cell in
      let done = k.done in
      let row : Pushed r.end (columns_in m i) (map (of_int binary64) (wholes_in seed m i)) C' C'' F' F'' s.end = rw n at x.row in
      let rows : Pushed 0 (joined (columns_in m) i ++ columns_in m i) (map (of_int binary64) (joined (wholes_in seed m) i) ++ map (of_int binary64) (wholes_in seed m i)) C C'' F F'' s.end =
      pushed_on done.rows row in
      let end : s.end ≡ row_start m (i + 1) = x.end ∙ ap (λ (j : ℕ). row_start m (j + 1)) n in
      record {
        box = box ∙ k.box;
        number = omega arith;
        within = omega arith;
        done = record {
          offsets = offset_written;
          rows = rw (add-one i, map-append (of_int binary64) (joined (wholes_in seed m) i) (wholes_in seed m i)) rows;
          end = end;
          state = x.state ∙ ap (λ (j : ℕ). state_of seed (draws_before m (j + 1))) n;
          size = length-set O' i r.end ∙ done.size;
        };
        short = omega (arith, start_small e (i + 1));
        few = k.few;
      }
