-- The coarse pattern: a pair of aggregates stands in it exactly if it is joined, once and in order. It is valid, its
-- columns rise, it has no more entries than the fine one, and where the fine one is mirrored or has its diagonal, so is
-- and has it: it can be the fine pattern of the next step.
-- Assumes nothing.
use mathlib.Core.Path.{◌≡◌, sym, ap, ◌∙◌}
use mathlib.Core.Bool.{true}
use mathlib.Core.List.{List}
use mathlib.Core.Logic.{⊎_elim}
use Prim.Native.Nat.{ℕ, ◌+◌, ◌≤◌, ◌<◌}
use native.Mathlib.Numerals.{add-one}
use native.Mathlib.Omega.{arith}
use lib.Dec.{eqb}
use lib.ListN.{length}
use Rattle.store.specs.Region.{idx}
use Rattle.store.proofs.store.Region.{le_or_lt}
use Rattle.store.proofs.store.Vector.{length_tab, get_d_tab}
use Rattle.pattern.specs.Pattern.{Pattern, entries, column_of, row_of, Valid, Rising, Mirrored, Diagonal, start_of, column_place_of, joins, coarse_offsets, coarse_columns, coarse_positions, coarse, Maps, Onto}
use Rattle.pattern.specs.Steps.{joins_by}
use Rattle.pattern.proofs.pattern.Place.{start_zero, start_mono, start_which, place_in, place_below, place_mono, place_which, place_exactly, length_columns, columns_at_lem}
use Rattle.pattern.proofs.pattern.Row.{row_is, joins_at, joins_below, joins_mirror, joins_few}

module _ (p : Pattern) (map : List ℕ) (count : ℕ) where
  -- Offset a is the start of row a.
  pub offsets_at_lem : (a : ℕ) → a ≤ count → idx (coarse_offsets p map count) a ≡ start_of count (joins p map) a
  unfolding coarse_offsets
  offsets_at_lem a h = get_d_tab (start_of count (joins p map)) (count + 1) a 0 (omega arith)

  -- The number of coarse entries is that of the joined pairs.
  pub coarse_size : entries (coarse p map count) ≡ start_of count (joins p map) count
  unfolding coarse_columns
  coarse_size = length_columns count (joins p map)

  -- There are no more coarse entries than fine ones.
  pub coarse_few : entries (coarse p map count) ≤ entries p
  coarse_few = omega (arith, coarse_size, joins_few p map count)

  -- The column of a joined pair stands at its place.
  pub coarse_column : (a b : ℕ) → a < count → b < count → joins p map a b ≡ true
      → column_of (coarse p map count) (column_place_of count (joins p map) a b) ≡ b
  unfolding coarse_columns
  coarse_column a b h l t = columns_at_lem count (joins p map) a b h l t

  -- Each coarse entry is the place of a joined pair.
  pub coarse_which : (q : ℕ) → q < entries (coarse p map count)
      → (a : ℕ) × (b : ℕ) × (a < count) × (b < count) × (joins p map a b ≡ true) × (q ≡ column_place_of count (joins p map) a b)
  coarse_which q h =
      let w = start_which count (joins p map) q (rw coarse_size at h) in
      let u = place_which count (joins p map) w.0 q w.2 w.3 in
      (w.0, u.0, w.1, u.1, u.2, u.3)

  length_offsets : length (coarse_offsets p map count) ≡ count + 1
  unfolding coarse_offsets
  length_offsets = length_tab (start_of count (joins p map)) (count + 1)

  -- The coarse pattern is valid, whatever the fine one.
  pub coarse_valid : Valid (coarse p map count)
  coarse_valid = record {
    size = length_offsets;
    first = offsets_at_lem 0 (omega arith) ∙ start_zero count (joins p map);
    rises = λ a h. rw (offsets_at_lem a (omega arith), offsets_at_lem (a + 1) (omega arith))
        (start_mono count (joins p map) a (a + 1) (omega arith));
    last = offsets_at_lem count (omega arith) ∙ sym coarse_size;
    inside = λ q h. let w = coarse_which q h in rw (w.5, coarse_column w.0 w.1 w.2 w.3 w.4) w.3;
  }

  -- The row of a joined pair's place is the pair's.
  pub coarse_row : (a b : ℕ) → a < count → b < count → joins p map a b ≡ true
      → row_of (coarse p map count) (column_place_of count (joins p map) a b) ≡ a
  coarse_row a b h l t =
      let i = place_in count (joins p map) a b l t in
      row_is coarse_valid a (column_place_of count (joins p map) a b) h (rw (offsets_at_lem a (omega arith)) i.0)
      (rw (offsets_at_lem (a + 1) (omega arith), add-one a) i.1)

  -- Each coarse entry joins its row to its column, and stands at their place.
  pub coarse_joined : (q : ℕ) → q < entries (coarse p map count)
      → (joins p map (row_of (coarse p map count) q) (column_of (coarse p map count) q) ≡ true) ×
      (q ≡ column_place_of count (joins p map) (row_of (coarse p map count) q) (column_of (coarse p map count) q))
  coarse_joined q h =
      let w = coarse_which q h in
      let r : row_of (coarse p map count) q ≡ w.0 = ap (row_of (coarse p map count)) w.5
      ∙ coarse_row w.0 w.1 w.2 w.3 w.4 in
      let c : column_of (coarse p map count) q ≡ w.1 = ap (column_of (coarse p map count)) w.5
      ∙ coarse_column w.0 w.1 w.2 w.3 w.4 in
      rw (r, c) (w.4, w.5)

  -- Within a row columns rise.
  pub coarse_rising : Rising (coarse p map count)
  coarse_rising = record {
    rising = λ e h same.
        let a = row_of (coarse p map count) (e + 1) in
        let b = column_of (coarse p map count) e in
        let d = column_of (coarse p map count) (e + 1) in
        let u : e ≡ column_place_of count (joins p map) a b = rw same at (coarse_joined e (omega arith)).1 in
        let v : e + 1 ≡ column_place_of count (joins p map) a d = (coarse_joined (e + 1) h).1 in
        ⊎_elim (λ (w : d ≤ b). let m = place_mono count (joins p map) a d b w in absurd (omega arith))
        (λ (w : b < d). w) (le_or_lt d b);
  }

  module _ (valid : Valid p) (maps : Maps map p.rows count) where
    -- The entry at the place of a joined pair.
    coarse_entry : (a b : ℕ) → joins p map a b ≡ true
        → (q : ℕ) × (q < entries (coarse p map count)) × (row_of (coarse p map count) q ≡ a) ×
        (column_of (coarse p map count) q ≡ b)
    coarse_entry a b t =
        let l = joins_below p map valid maps a b t in (
          column_place_of count (joins p map) a b,
          rw coarse_size (place_below count (joins p map) a b l.0 l.1 t),
          coarse_row a b l.0 l.1 t,
          coarse_column a b l.0 l.1 t,
        )

    -- It is mirrored if the fine pattern is.
    pub coarse_mirrored : Mirrored p → Mirrored (coarse p map count)
    coarse_mirrored m = record {
      mirror = λ q h.
          coarse_entry (column_of (coarse p map count) q) (row_of (coarse p map count) q)
          (joins_mirror p map m (column_of (coarse p map count) q) (row_of (coarse p map count) q)
          ∙ (coarse_joined q h).0);
    }

    -- It has its diagonal if the fine pattern has and each aggregate has a row.
    pub coarse_diagonal : Diagonal p → Onto map p.rows count → Diagonal (coarse p map count)
    coarse_diagonal d onto = record {
      diagonal = λ a h.
          let i = onto.hit a h in
          let e = d.diagonal i.0 i.1 in
          coarse_entry a a (rw (e.2, e.3, i.2) at (joins_at p map e.0 e.1));
    }

    -- ---- positions

    -- The position of a fine entry is the place of the pair that it joins.
    pub position_is : (e : ℕ) → e < entries p → idx (coarse_positions p map count) e ≡ column_place_of count (joins p map)
        (idx map (row_of p e)) (idx map (column_of p e))
    unfolding coarse_positions
    position_is e h = get_d_tab (λ e. column_place_of count (joins p map) (idx map (row_of p e)) (idx map (column_of p e)))
        (entries p) e 0 h

    -- Positions are below the number of coarse entries.
    pub position_below : (e : ℕ) → e < entries p → idx (coarse_positions p map count) e < entries (coarse p map count)
    position_below e h =
        let t = joins_at p map e h in
        let l = joins_below p map valid maps (idx map (row_of p e)) (idx map (column_of p e)) t in
        rw (position_is e h, coarse_size) (place_below count (joins p map) (idx map (row_of p e))
        (idx map (column_of p e)) l.0 l.1 t)

    -- Exactly the fine entries that join the row and the column of a coarse entry have its position.
    pub position_exactly : (e q : ℕ) → e < entries p → q < entries (coarse p map count)
        → eqb (idx (coarse_positions p map count) e) q ≡ joins_by p map (row_of (coarse p map count) q)
        (column_of (coarse p map count) q) e
    unfolding joins_by
    position_exactly e q h l =
        let t = joins_at p map e h in
        let b = joins_below p map valid maps (idx map (row_of p e)) (idx map (column_of p e)) t in
        let u = coarse_joined q l in
        let d = joins_below p map valid maps (row_of (coarse p map count) q) (column_of (coarse p map count) q) u.0 in
        ap (eqb (idx (coarse_positions p map count) e)) u.1
        ∙ ap (λ (x : ℕ). eqb x (column_place_of count (joins p map) (row_of (coarse p map count) q)
        (column_of (coarse p map count) q))) (position_is e h)
        ∙ place_exactly count (joins p map) (idx map (row_of p e)) (idx map (column_of p e))
        (row_of (coarse p map count) q) (column_of (coarse p map count) q) b.1 t d.1 u.0
