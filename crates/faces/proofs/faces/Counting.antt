-- The loops of `count_row` and `face_offsets`.
-- Assumes nothing.
use mathlib.Core.Path.{◌≡◌, refl, sym, ap, ◌∙◌}
use mathlib.Core.Bool.{true, false}
use mathlib.Core.List.{List}
use Prim.Native.Nat.{ℕ, ◌+◌, ◌≤◌, ◌<◌}
use native.Mathlib.Numerals.{add-one}
use native.Mathlib.Omega.{arith}
use lib.Dec.{ltb}
use lib.ListN.{set}
use borrow.Author.Tests.{lt-ltb, le-ltb}
use Rattle.store.specs.Region.{idx, splice, Kept}
use Rattle.store.specs.Vector.{tab}
use Rattle.store.proofs.store.Region.{splice_nil, wrote, kept_wrote}
use Rattle.store.proofs.store.Vector.{length_tab}
use Rattle.pattern.specs.Pattern.{how_many, Pattern, column_of, row_of}
use Rattle.pattern.proofs.pattern.Number.{many_step, many_zero}
use Rattle.pattern.proofs.pattern.Row.{row_is}
use Rattle.faces.specs.declared.faces.Faces.{Faces}
use Rattle.faces.specs.Faces.{above, faces_of, face_offsets_of}
use Rattle.faces.specs.Contract.{pattern_at, Standing, OffsetsOk, OffsetsDone}
use Rattle.faces.specs.Steps.{CountOk, Counted}
use Rattle.faces.proofs.faces.Pick.{many_few, set_tab}
use Rattle.faces.proofs.faces.Entries.{offset_few}
use Rattle.faces.proofs.faces.Standing.{size_at_lem, offset_at, next_at, column_at, next_less, pattern_kept, standing_on}

-- The test of an entry whose row and column are known.
pub above_is : (p : Pattern) (e row column : ℕ) → row_of p e ≡ row → column_of p e ≡ column → above p e ≡ ltb row column
unfolding above
above_is p e row column r c = rw (r, c) refl

-- ---- count_row

-- The invariant: `count` entries before e stand above the diagonal.
pub record Counting (w : List ℕ) (s : Faces) (row end e count : ℕ) : Type 0 where
  pub standing : Standing w s
  pub near : row < s.rows
  pub ends : end ≡ idx (pattern_at w s).offsets (row + 1)
  pub few : end ≤ s.entries
  pub low : idx (pattern_at w s).offsets row ≤ e
  pub high : e ≤ end
  pub counted : count ≡ how_many (above (pattern_at w s)) e
  pub less : count ≤ e

-- At the start of the row.
pub counting_start : {w : List ℕ} {s : Faces} {row end e count : ℕ} → CountOk w s row count → end ≡ idx w (s.offsets + row + 1)
    → e ≡ idx w (s.offsets + row) → Counting w s row end e count
counting_start {w} {s} {row} {end} {e} {count} ok is at =
    let stands = ok.standing in
    let near = ok.near in
    let start : e ≡ idx (pattern_at w s).offsets row = at ∙ offset_at stands row (omega arith) in
    let ends : end ≡ idx (pattern_at w s).offsets (row + 1) = is ∙ next_at stands row near in
    let few : idx w (s.offsets + row + 1) ≤ s.entries = next_less stands row near in
    let rises : idx (pattern_at w s).offsets row ≤ idx (pattern_at w s).offsets (row + 1) = stands.valid.rises row near in
    let counted : count ≡ how_many (above (pattern_at w s)) e = ok.before ∙ ap (how_many (above (pattern_at w s))) (sym start) in
    let less = many_few (above (pattern_at w s)) e in
    record {
      standing = stands;
      near = near;
      ends = ends;
      few = omega arith;
      low = omega arith;
      high = omega arith;
      counted = counted;
      less = omega arith;
    }

module _ {w : List ℕ} {s : Faces} {row end e count column : ℕ} (c : Counting w s row end e count) (h : e < end)
    (is : column ≡ idx w (s.columns + e)) where
  test : above (pattern_at w s) e ≡ ltb row column
  test =
      let stands = c.standing in
      let few = c.few in
      let ends = c.ends in
      above_is (pattern_at w s) e row column (row_is stands.valid row e c.near c.low (omega arith))
      (sym (is ∙ column_at stands e (omega arith)))

  -- An entry above the diagonal counts.
  pub counting_yes : {more : ℕ} → row < column → more ≡ count + 1 → Counting w s row end (e + 1) more
  counting_yes {more} l m =
      let t : above (pattern_at w s) e ≡ true = test ∙ lt-ltb row column l in
      let step : how_many (above (pattern_at w s)) (e + 1) ≡ how_many (above (pattern_at w s)) e + 1 =
      ap (how_many (above (pattern_at w s))) (add-one e) ∙ many_step (above (pattern_at w s)) e ∙ rw t refl in
      let low = c.low in let less = c.less in let counted = c.counted in
      record {
        standing = c.standing;
        near = c.near;
        ends = c.ends;
        few = c.few;
        low = omega arith;
        high = omega arith;
        counted =
            omega arith;
        less = omega arith;
      }

  -- Another one does not.
  pub counting_no : {more : ℕ} → column ≤ row → more ≡ count → Counting w s row end (e + 1) more
  counting_no {more} l m =
      let t : above (pattern_at w s) e ≡ false = test ∙ le-ltb row column l in
      let step : how_many (above (pattern_at w s)) (e + 1) ≡ how_many (above (pattern_at w s)) e + 0 =
      ap (how_many (above (pattern_at w s))) (add-one e) ∙ many_step (above (pattern_at w s)) e ∙ rw t refl in
      let low = c.low in let less = c.less in let counted = c.counted in
      record {
        standing = c.standing;
        near = c.near;
        ends = c.ends;
        few = c.few;
        low = omega arith;
        high = omega arith;
        counted =
            omega arith;
        less = omega arith;
      }

-- At its end.
pub counting_done : {w : List ℕ} {s : Faces} {row end e count : ℕ} → Counting w s row end e count → end ≤ e → Counted w s row count
counting_done {w} {s} {row} {end} {e} c h =
    let high = c.high in
    let is : e ≡ end = omega arith in
    record { count = c.counted ∙ ap (how_many (above (pattern_at w s))) (is ∙ c.ends) }

-- ---- face_offsets

-- the number of faces before row i
abbrev before : Pattern → ℕ → ℕ
before p i = how_many (above p) (idx p.offsets i)

-- The invariant: the face offsets of the rows before `row` are written, and `found` is the next.
pub record Offsetting (F G : List ℕ) (s : Faces) (row found : ℕ) : Type 0 where
  pub ok : OffsetsOk F s
  pub reach : row ≤ s.rows
  pub is : G ≡ splice s.starts (tab (before (pattern_at F s)) row) F
  pub next : found ≡ before (pattern_at F s) row

-- Before the first row.
pub offsetting_start : {F : List ℕ} {s : Faces} → OffsetsOk F s → Offsetting F F s 0 0
unfolding tab
offsetting_start {F} {s} ok = record {
  ok = ok;
  reach = omega arith;
  is = sym (splice_nil s.starts F);
  next = sym (ap (how_many (above (pattern_at F s))) ok.standing.valid.first ∙ many_zero (above (pattern_at F s)));
}

module _ {F G : List ℕ} {s : Faces} {row found : ℕ} (o : Offsetting F G s row found) where
  offsetting_kept : Kept s.starts F G
  offsetting_kept = kept_wrote (wrote {b = s.starts} o.is (length_tab (before (pattern_at F s)) row)) (omega arith)

  -- What `count_row` requires of the next row.
  pub offsetting_count : row < s.rows → CountOk G s row found
  offsetting_count h = record {
    standing = standing_on o.ok.standing offsetting_kept;
    near = h;
    before = o.next ∙ ap (λ (p : Pattern). before p row) (sym (pattern_kept o.ok.standing offsetting_kept));
  }

  -- There are few faces.
  pub offsetting_few : found ≤ s.entries
  offsetting_few =
      let p = pattern_at F s in
      let stands = o.ok.standing in
      let a = many_few (above p) (idx p.offsets row) in
      let b = offset_few stands.valid row o.reach in
      let c = size_at_lem stands in
      let d = o.next in
      omega arith

  written : set G (s.starts + row) found ≡ splice s.starts (tab (before (pattern_at F s)) (row + 1)) F
  written = rw (o.is, o.next) (set_tab s.starts row (before (pattern_at F s)) F)

  -- A row more.
  pub offsetting_on : {more : ℕ} → row < s.rows → Counted G s row more → Offsetting F (set G (s.starts + row) found) s (row + 1) more
  offsetting_on {more} h c = record {
    ok = o.ok;
    reach = omega arith;
    is = written;
    next = c.count ∙ ap (λ (p : Pattern). before p (row + 1)) (pattern_kept o.ok.standing offsetting_kept);
  }

  -- After the last row its offset is the number of faces.
  pub offsetting_done : s.rows ≤ row → OffsetsDone F (set G (s.starts + s.rows) found) s found
  unfolding face_offsets_of faces_of
  offsetting_done h =
      let reach = o.reach in
      let e : row ≡ s.rows = omega arith in
      let p = pattern_at F s in
      record {
        wrote = wrote (rw e at written) (length_tab (before p) (s.rows + 1));
        found = o.next ∙ ap (before p) e ∙ ap (how_many (above p)) o.ok.standing.valid.last;
      }
