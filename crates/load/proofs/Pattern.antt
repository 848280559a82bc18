-- The pattern of a load on a neat grid is valid and rising, each entry has its mirror and each row its diagonal. Assumes nothing.
use Rattle.std.proofs.Common.{◌≡◌, ℕ, ◌+◌, ◌<◌, ◌≤◌, true, List, ◌∷◌, ◌++◌, length, sym, refl, ap, ◌∙◌, inl, inr, ⊎_elim, arith}
use Rattle.store.specs.Region.{idx}
use Rattle.store.proofs.store.Vector.{length_tab, get_d_tab}
use Rattle.pattern.specs.Pattern.{Pattern, entries, column_of, row_of, Valid, Rising, Mirrored, Diagonal}
use Rattle.pattern.proofs.pattern.Number.{sum_zero, sum_which}
use Rattle.pattern.proofs.pattern.Row.{row_is}
use Rattle.load.specs.Box.{Grid, box, all_positive}
use Rattle.load.specs.Load.{columns_in, row_start, pattern_of}
use Rattle.load.specs.Theorem.{Between, Among, Neat}
use Rattle.load.proofs.Lists.{length_joined, joined_at}
use Rattle.load.proofs.Rows.{start_next, start_mono}
use Rattle.load.proofs.Rising.{between_on, between_at, between_rise, among_place, place_among, among_l, among_r, among_which}
use Rattle.load.proofs.Neat.{box_neat}

module _ {m : Grid} (neat : Neat m) where
  abbrev p : Pattern
  p = pattern_of m

  -- The columns of a row rise below the number of cells.
  pub columns_between : (i : ℕ) → i < m.cells → Between 0 m.cells (columns_in m i)
  unfolding columns_in
  columns_between i h =
      between_on 0 i m.cells (m.behind i) (i ∷ m.ahead i) (omega arith) (omega arith) (neat.below i h) (omega arith, h, neat.above i h)

  -- Where row i starts.
  pub offset_at : (i : ℕ) → i ≤ m.cells → idx p.offsets i ≡ row_start m i
  offset_at i h = get_d_tab (row_start m) (m.cells + 1) i 0 (omega arith)

  -- The number of entries.
  pub entries_are : entries p ≡ row_start m m.cells
  unfolding row_start
  entries_are = length_joined (columns_in m) m.cells

  -- Each entry is one of a row.
  pub record Standing (e : ℕ) : Type 0 where
    pub row : ℕ
    pub place : ℕ
    pub inside : row < m.cells
    pub within : place < length (columns_in m row)
    pub is : e ≡ row_start m row + place
    pub column : column_of p e ≡ idx (columns_in m row) place

  pub standing : (e : ℕ) → e < entries p → Standing e
  unfolding row_start
  standing e h =
      let w = sum_which (λ c. length (columns_in m c)) m.cells e (rw entries_are at h) in
      record {
        row = w.0;
        place = w.1;
        inside = w.2;
        within = w.3;
        is = w.4;
        column = ap (idx p.columns) w.4 ∙ joined_at (columns_in m) m.cells w.0 w.1 0 w.2 w.3;
      }

  -- The pattern is valid.
  pub load_valid : Valid p
  unfolding row_start
  load_valid = record {
    size = length_tab (row_start m) (m.cells + 1);
    first = offset_at 0 (omega arith) ∙ sum_zero (λ c. length (columns_in m c));
    rises = λ i h. rw (offset_at i (omega arith), offset_at (i + 1) (omega arith)) (start_mono m i (i + 1) (omega arith));
    last = offset_at m.cells (omega arith) ∙ sym entries_are;
    inside = λ e h.
        let s = standing e h in
        rw s.column (between_at 0 m.cells s.place (columns_in m s.row) (columns_between s.row s.inside) s.within).1;
  }

  -- An entry of a row stands in that row,
  pub row_at : (r k : ℕ) → r < m.cells → k < length (columns_in m r) → row_of p (row_start m r + k) ≡ r
  row_at r k h l =
      row_is load_valid r (row_start m r + k) h (rw (offset_at r (omega arith)) (omega arith))
      (rw (offset_at (r + 1) (omega arith)) (omega (arith, start_next m r)))

  pub row_of_lem : (e : ℕ) (h : e < entries p) → row_of p e ≡ (standing e h).row
  row_of_lem e h = let s = standing e h in ap (row_of p) s.is ∙ row_at s.row s.place s.inside s.within

  -- and is below the number of entries, in its column.
  pub entry_at : (r k : ℕ) → r < m.cells → k < length (columns_in m r) → row_start m r + k < entries p
  entry_at r k h l = omega (arith, entries_are, start_next m r, start_mono m (r + 1) m.cells (omega arith))

  pub column_at : (r k : ℕ) → r < m.cells → k < length (columns_in m r) → column_of p (row_start m r + k) ≡ idx (columns_in m r) k
  unfolding row_start
  column_at r k h l = joined_at (columns_in m) m.cells r k 0 h l

  -- The columns rise within each row.
  pub load_rising : Rising p
  load_rising = record {
    rising = λ e h same.
        let s = standing e (omega arith) in
        let t = standing (e + 1) h in
        let r : s.row ≡ t.row = sym (row_of_lem e (omega arith)) ∙ same ∙ row_of_lem (e + 1) h in
        let st : row_start m s.row ≡ row_start m t.row = ap (row_start m) r in
        let k : t.place ≡ s.place + 1 = omega (arith, s.is, t.is) in
        let c : column_of p (e + 1) ≡ idx (columns_in m s.row) (s.place + 1) =
        t.column ∙ ap (λ (x : ℕ). idx (columns_in m x) t.place) (sym r) ∙ ap (idx (columns_in m s.row)) k in
        let n : s.place + 1 < length (columns_in m s.row) = rw (← k, r) t.within in
        rw (s.column, c) (between_rise 0 m.cells s.place (columns_in m s.row) (columns_between s.row s.inside) n);
  }

  -- An entry for an element of a row's columns.
  pub entry_for : (r j : ℕ) → r < m.cells → Among j (columns_in m r)
      → (e : ℕ) × (e < entries p) × (row_of p e ≡ r) × (column_of p e ≡ j)
  entry_for r j h w =
      let k = among_place j (columns_in m r) w in
      (row_start m r + k.0, entry_at r k.0 h k.1, row_at r k.0 h k.1, column_at r k.0 h k.1 ∙ k.2)

  -- Columns are told from both sides.
  mirror_columns : (i j : ℕ) → i < m.cells → Among j (columns_in m i) → Among i (columns_in m j)
  unfolding columns_in
  mirror_columns i j h w = ⊎_elim
      (λ (b : Among j (m.behind i)). among_r i (m.behind j) (j ∷ m.ahead j) (inr (neat.forth i j h b)))
      (λ (b : Among j (i ∷ m.ahead i)). own_or_ahead b)
      (among_which j (m.behind i) (i ∷ m.ahead i) w)
    where
      own_or_ahead : Among j (i ∷ m.ahead i) → Among i (m.behind j ++ (j ∷ m.ahead j))
      own_or_ahead (inl e) = among_r i (m.behind j) (j ∷ m.ahead j) (inl (sym e))
      own_or_ahead (inr a) = among_l i (m.behind j) (j ∷ m.ahead j) (neat.back i j h a)

  -- Each entry has its mirror.
  pub load_mirrored : Mirrored p
  load_mirrored = record {
    mirror = λ e h.
        let s = standing e h in
        let j = idx (columns_in m s.row) s.place in
        let below : j < m.cells = (between_at 0 m.cells s.place (columns_in m s.row) (columns_between s.row s.inside) s.within).1 in
        let w = entry_for j s.row below (mirror_columns s.row j s.inside (place_among s.place (columns_in m s.row) s.within)) in
        (w.0, w.1, w.2 ∙ sym s.column, w.3 ∙ sym (row_of_lem e h));
  }

  -- Each row has its diagonal.
  pub load_diagonal : Diagonal p
  unfolding columns_in
  load_diagonal = record { diagonal = λ i h. entry_for i i h (among_r i (m.behind i) (i ∷ m.ahead i) (inl refl)) }

-- So it is of every box.
pub box_valid : (es : List ℕ) → all_positive es ≡ true → Valid (pattern_of (box es))
box_valid es h = load_valid (box_neat es h)

pub box_rising : (es : List ℕ) → all_positive es ≡ true → Rising (pattern_of (box es))
box_rising es h = load_rising (box_neat es h)

pub box_mirrored : (es : List ℕ) → all_positive es ≡ true → Mirrored (pattern_of (box es))
box_mirrored es h = load_mirrored (box_neat es h)

pub box_diagonal : (es : List ℕ) → all_positive es ≡ true → Diagonal (pattern_of (box es))
box_diagonal es h = load_diagonal (box_neat es h)
