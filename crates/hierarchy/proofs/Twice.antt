-- Two maps one after the other: the coarse pattern of a coarse pattern is that of the composed map, which again is a map, onto
-- all aggregates where both are. So merged steps lead to the pattern that is made afresh from the level by the composed map.
-- Assumes nothing.
use mathlib.Core.Path.{◌≡◌, sym, ap, ◌∙◌, fun_ext}
use mathlib.Core.Bool.{Bool, true}
use mathlib.Core.List.{List}
use Prim.Native.Nat.{ℕ, ◌+◌, ◌<◌}
use Rattle.store.specs.Region.{idx}
use Rattle.store.specs.Vector.{tab}
use Rattle.store.proofs.store.Vector.{length_tab, get_d_tab}
use Rattle.pattern.specs.Pattern.{Pattern, entries, column_of, row_of, Valid, those, flat, start_of, joins, coarse_offsets, coarse_columns, coarse_positions, coarse, Maps, Onto, compose_of}
use Rattle.pattern.proofs.pattern.Number.{both_ways}
use Rattle.pattern.proofs.pattern.Row.{row_in, joins_at, joins_which, joins_below}
use Rattle.pattern.proofs.pattern.Coarse.{coarse_row, coarse_column, coarse_joined, position_is, position_below}

-- ---- the composed map

-- A row's aggregate in the composed map is the next map's of its first one.
pub compose_at : (r : ℕ) (m n : List ℕ) (i : ℕ) → i < r → idx (compose_of r m n) i ≡ idx n (idx m i)
unfolding compose_of
compose_at r m n i h = get_d_tab (λ i. idx n (idx m i)) r i 0 h

-- It has one for each row.
pub compose_maps : {m n : List ℕ} {r c d : ℕ} → Maps m r c → Maps n c d → Maps (compose_of r m n) r d
unfolding compose_of
compose_maps {m} {n} {r} f g = record {
  size = length_tab (λ i. idx n (idx m i)) r;
  below = λ i h. rw (compose_at r m n i h) (g.below (idx m i) (f.below i h));
}

-- Each aggregate has a row if both maps have one for each of theirs.
pub compose_onto : {m n : List ℕ} {r c d : ℕ} → Onto m r c → Onto n c d → Onto (compose_of r m n) r d
compose_onto {m} {n} {r} f g = record {
  hit = λ a h.
      let j = g.hit a h in
      let i = f.hit j.0 j.1 in
      (i.0, i.1, compose_at r m n i.0 i.1 ∙ ap (idx n) i.2 ∙ j.2);
}

-- ---- the pattern

module _ {p : Pattern} {m : List ℕ} {c : ℕ} (valid : Valid p) (maps : Maps m p.rows c) (n : List ℕ) where
  -- the composed map
  abbrev both : List ℕ
  both = compose_of p.rows m n

  -- the aggregates of an entry's row and column in the composed map
  row_both : (e : ℕ) → e < entries p → idx both (row_of p e) ≡ idx n (idx m (row_of p e))
  row_both e h = compose_at p.rows m n (row_of p e) (row_in valid e h).0

  column_both : (e : ℕ) → e < entries p → idx both (column_of p e) ≡ idx n (idx m (column_of p e))
  column_both e h = compose_at p.rows m n (column_of p e) (valid.inside e h)

  -- What the coarse pattern joins, an entry of the fine one does.
  joins_down : (a b : ℕ) → joins (coarse p m c) n a b ≡ true → joins p both a b ≡ true
  joins_down a b t =
      let u = joins_which (coarse p m c) n a b t in
      let v = coarse_joined p m c u.0 u.1 in
      let w = joins_which p m (row_of (coarse p m c) u.0) (column_of (coarse p m c) u.0) v.0 in
      let r : idx both (row_of p w.0) ≡ a = row_both w.0 w.1 ∙ ap (idx n) w.2 ∙ u.2 in
      let s : idx both (column_of p w.0) ≡ b = column_both w.0 w.1 ∙ ap (idx n) w.3 ∙ u.3 in
      rw (r, s) at (joins_at p both w.0 w.1)

  -- What a fine entry joins, the coarse entry that it is added to does.
  joins_up : (a b : ℕ) → joins p both a b ≡ true → joins (coarse p m c) n a b ≡ true
  joins_up a b t =
      let u = joins_which p both a b t in
      let i = idx m (row_of p u.0) in
      let j = idx m (column_of p u.0) in
      let on = joins_at p m u.0 u.1 in
      let l = joins_below p m valid maps i j on in
      let q = idx (coarse_positions p m c) u.0 in
      let is = position_is p m c valid maps u.0 u.1 in
      let r : idx n (row_of (coarse p m c) q) ≡ a =
      ap (idx n) (ap (row_of (coarse p m c)) is ∙ coarse_row p m c i j l.0 l.1 on) ∙ sym (row_both u.0 u.1) ∙ u.2 in
      let s : idx n (column_of (coarse p m c) q) ≡ b =
      ap (idx n) (ap (column_of (coarse p m c)) is ∙ coarse_column p m c i j l.0 l.1 on) ∙ sym (column_both u.0 u.1) ∙ u.3 in
      rw (r, s) at (joins_at (coarse p m c) n q (position_below p m c valid maps u.0 u.1))

  joins_both : joins (coarse p m c) n ≡ joins p both
  joins_both = fun_ext (λ a. fun_ext (λ b. both_ways (joins (coarse p m c) n a b) (joins p both a b) (joins_down a b) (joins_up a b)))

  -- The coarse pattern of the coarse pattern is that of the composed map.
  pub coarse_twice : (d : ℕ) → coarse (coarse p m c) n d ≡ coarse p (compose_of p.rows m n) d
  unfolding coarse_offsets coarse_columns
  coarse_twice d = ap (λ (g : ℕ → ℕ → Bool). record {
    rows = d;
    offsets = tab (start_of d g) (d + 1);
    columns = flat (λ a. those (g a) d) d;
  }) joins_both
