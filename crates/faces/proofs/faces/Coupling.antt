-- Coupled rows: a row that has its diagonal entry is coupled if it has two entries; the loops of `coupled_count` and `coupled_rows`.
-- Assumes nothing.
use mathlib.Core.Path.{◌≡◌, refl, sym, ap, ◌∙◌}
use mathlib.Core.Bool.{Bool, true, false, ◌&&◌, not}
use mathlib.Core.List.{List}
use mathlib.Core.Logic.{⊎_elim}
use Prim.Native.Nat.{ℕ, ◌+◌, ◌≤◌, ◌<◌}
use native.Mathlib.Numerals.{add-one}
use native.Mathlib.Omega.{arith}
use lib.Dec.{eqb, ltb}
use lib.ListN.{length}
use borrow.Author.Tests.{eqb-true, eqb-false, eq-eqb, ne_eqb, lt-ltb, ltb-true, not-true}
use Rattle.store.specs.Region.{idx, Kept}
use Rattle.store.proofs.store.Region.{le_or_lt, kept_wrote}
use Rattle.store.proofs.store.Each.{both_l, both_r}
use Rattle.pattern.specs.Pattern.{how_many, Pattern, entries, column_of, row_of, Valid, Rising, Diagonal}
use Rattle.pattern.proofs.pattern.Number.{both_ways, same?, some_at, some_which, many_step, many_zero, many_lt}
use Rattle.pattern.proofs.pattern.Row.{row_is, row_in}
use Rattle.faces.specs.declared.faces.Faces.{Faces}
use Rattle.faces.specs.Faces.{coupled_of, coupled_count_of, coupled_rows_of}
use Rattle.faces.specs.Contract.{pattern_at, CoupledOk, CoupledCount, CoupledRowsOk, CoupledRows}
use Rattle.faces.specs.Steps.{PushOk, Pushed}
use Rattle.faces.proofs.faces.Pick.{picked_self, many_few, Picking, picking_start, picking_on, picking_wrote}
use Rattle.faces.proofs.faces.Entries.{offset_few, columns_rise}
use Rattle.faces.proofs.faces.Standing.{offset_at, next_at, pattern_kept, coupled_on}

-- ---- a row

-- An entry off the diagonal couples its row.
coupled_at_lem : (p : Pattern) (i e : ℕ) → e < entries p → row_of p e ≡ i → (column_of p e ≡ i → ⊥) → coupled_of p i ≡ true
unfolding coupled_of
coupled_at_lem p i e h r c = some_at (λ d. eqb (row_of p d) i && not (eqb (column_of p d) i)) (entries p) e h
    (rw (eq-eqb (row_of p e) i r, ne_eqb (column_of p e) i c) refl)

-- A coupled row has one.
coupled_which : (p : Pattern) (i : ℕ) → coupled_of p i ≡ true → (e : ℕ) × (e < entries p) × (row_of p e ≡ i) × (column_of p e ≡ i → ⊥)
unfolding coupled_of
coupled_which p i t =
    let v = some_which (λ d. eqb (row_of p d) i && not (eqb (column_of p d) i)) (entries p) t in
    let e = v.0 in (
      e,
      v.1,
      eqb-true (row_of p e) i (both_l (eqb (row_of p e) i) (not (eqb (column_of p e) i)) v.2),
      eqb-false (column_of p e) i (not-true (eqb (column_of p e) i) (both_r (eqb (row_of p e) i) (not (eqb (column_of p e) i)) v.2)),
    )

-- A row that has its diagonal entry is coupled exactly if it has two entries.
pub coupled_is : {p : Pattern} → Valid p → Rising p → Diagonal p → (i : ℕ) → i < p.rows
    → ltb (idx p.offsets i + 1) (idx p.offsets (i + 1)) ≡ coupled_of p i
coupled_is {p} valid rising diagonal i h = both_ways (ltb (idx p.offsets i + 1) (idx p.offsets (i + 1))) (coupled_of p i) two one
  where
    two : ltb (idx p.offsets i + 1) (idx p.offsets (i + 1)) ≡ true → coupled_of p i ≡ true
    two t =
        let start = idx p.offsets i in
        let l = ltb-true (start + 1) (idx p.offsets (i + 1)) t in
        let few = offset_few valid (i + 1) (omega arith) in
        let rise = columns_rise valid rising i start (start + 1) h (omega arith) (omega arith) l in
        ⊎_elim
        (λ (v : (column_of p start ≡ i) × (eqb (column_of p start) i ≡ true)).
        let first = v.0 in
        coupled_at_lem p i (start + 1) (omega arith) (row_is valid i (start + 1) h (omega arith) l) (λ c. omega arith))
        (λ (v : (column_of p start ≡ i → ⊥) × (eqb (column_of p start) i ≡ false)).
        coupled_at_lem p i start (omega arith) (row_is valid i start h (omega arith) (omega arith)) v.0)
        (same? (column_of p start) i)

    one : coupled_of p i ≡ true → ltb (idx p.offsets i + 1) (idx p.offsets (i + 1)) ≡ true
    one t =
        let v = coupled_which p i t in
        let d = diagonal.diagonal i h in
        let a = row_in valid v.0 v.1 in
        let b = row_in valid d.0 d.1 in
        let alo = rw v.2 at a.1 in
        let ahi = rw v.2 at a.2 in
        let blo = rw d.2 at b.1 in
        let bhi = rw d.2 at b.2 in
        lt-ltb (idx p.offsets i + 1) (idx p.offsets (i + 1)) (⊎_elim
        (λ (s : (v.0 ≡ d.0) × (eqb v.0 d.0 ≡ true)). absurd (v.3 (ap (λ (e : ℕ). column_of p e) s.0 ∙ d.3)))
        (λ (s : (v.0 ≡ d.0 → ⊥) × (eqb v.0 d.0 ≡ false)). ⊎_elim
        (λ (q : v.0 ≤ d.0). ⊎_elim
        (λ (u : d.0 ≤ v.0). absurd (s.0 (omega arith)))
        (λ (u : v.0 < d.0). omega arith)
        (le_or_lt d.0 v.0))
        (λ (q : d.0 < v.0). omega arith)
        (le_or_lt v.0 d.0))
        (same? v.0 d.0))

-- What `is_coupled` tests.
pub coupled_test : {w : List ℕ} {s : Faces} {row start end : ℕ} → CoupledOk w s → row < s.rows → start ≡ idx w (s.offsets + row)
    → end ≡ idx w (s.offsets + row + 1) → ltb (start + 1) end ≡ coupled_of (pattern_at w s) row
coupled_test {w} {s} {row} {start} {end} ok near first last =
    let stands = ok.ordered.standing in
    let a : start ≡ idx (pattern_at w s).offsets row = first ∙ offset_at stands row (omega arith) in
    let b : end ≡ idx (pattern_at w s).offsets (row + 1) = last ∙ next_at stands row near in
    rw (a, b) (coupled_is stands.valid ok.ordered.rising ok.diagonal row near)

-- ---- coupled_count

-- The invariant: `count` rows before `row` are coupled.
pub record Coupling (w : List ℕ) (s : Faces) (row count : ℕ) : Type 0 where
  pub reach : row ≤ s.rows
  pub counted : count ≡ how_many (coupled_of (pattern_at w s)) row

-- Before the first row.
pub coupling_start : {w : List ℕ} {s : Faces} → Coupling w s 0 0
coupling_start {w} {s} = record { reach = omega arith; counted = sym (many_zero (coupled_of (pattern_at w s))) }

-- There are few.
pub coupling_few : {w : List ℕ} {s : Faces} {row count : ℕ} → Coupling w s row count → count ≤ row
coupling_few {w} {s} {row} c = let l = many_few (coupled_of (pattern_at w s)) row in let e = c.counted in omega arith

-- A coupled row counts.
pub coupling_yes : {w : List ℕ} {s : Faces} {row count more : ℕ} {r : Bool} → Coupling w s row count → row < s.rows
    → r ≡ coupled_of (pattern_at w s) row → r ≡ true → more ≡ count + 1 → Coupling w s (row + 1) more
coupling_yes {w} {s} {row} {count} {more} {r} c h is t e = record {
  reach = omega arith;
  counted = e ∙ rw (c.counted, add-one row) (sym (many_step (coupled_of (pattern_at w s)) row ∙ rw (sym is ∙ t) refl));
}

-- Another one does not.
pub coupling_no : {w : List ℕ} {s : Faces} {row count more : ℕ} {r : Bool} → Coupling w s row count → row < s.rows
    → r ≡ coupled_of (pattern_at w s) row → r ≡ false → more ≡ count → Coupling w s (row + 1) more
coupling_no {w} {s} {row} {count} {more} {r} c h is t e = record {
  reach = omega arith;
  counted = e ∙ c.counted ∙ rw (add-one row) (sym (many_step (coupled_of (pattern_at w s)) row ∙ rw (sym is ∙ t) (omega arith)));
}

-- After the last row all are counted.
pub coupling_done : {w : List ℕ} {s : Faces} {row count : ℕ} → Coupling w s row count → s.rows ≤ row → CoupledCount w s count
unfolding coupled_count_of
coupling_done {w} {s} {row} c h =
    let reach = c.reach in
    let e : row ≡ s.rows = omega arith in
    record { count = c.counted ∙ ap (how_many (coupled_of (pattern_at w s))) e }

-- ---- coupled_rows

-- The invariant: the coupled rows before `row` have been pushed.
pub record Listing (F G : List ℕ) (s : Faces) (to row count : ℕ) : Type 0 where
  pub ok : CoupledRowsOk F s to
  pub reach : row ≤ s.rows
  pub picking : Picking (λ i. i) (coupled_of (pattern_at F s)) to row count F G

-- Before the first row.
pub listing_start : {F : List ℕ} {s : Faces} {to : ℕ} → CoupledRowsOk F s to → Listing F F s to 0 0
listing_start ok = record { ok = ok; reach = omega arith; picking = picking_start }

module _ {F G : List ℕ} {s : Faces} {to row count : ℕ} (l : Listing F G s to row count) where
  listing_kept : Kept s.starts F G
  listing_kept = kept_wrote (picking_wrote l.picking) l.ok.below

  -- The store has its size.
  pub listing_size : length G ≡ length F
  listing_size = listing_kept.size

  -- What `is_coupled` requires.
  pub listing_coupled : CoupledOk G s
  listing_coupled = coupled_on l.ok.coupled listing_kept

  module _ {r : Bool} (h : row < s.rows) (is : r ≡ coupled_of (pattern_at G s) row) where
    same : r ≡ coupled_of (pattern_at F s) row
    same = is ∙ ap (λ (p : Pattern). coupled_of p row) (pattern_kept l.ok.coupled.ordered.standing listing_kept)

    -- A coupled row has room.
    pub listing_room : PushOk (length G) to count row r
    unfolding coupled_count_of
    listing_room =
        let few = l.ok.coupled.ordered.standing.few in
        let size = listing_size in
        let counted = l.picking.count in
        let less = many_few (coupled_of (pattern_at F s)) row in
        record {
          small = omega arith;
          less = omega arith;
          room = λ t. let m = many_lt (coupled_of (pattern_at F s)) row s.rows h (sym same ∙ t) in let room = l.ok.room in omega
              arith;
        }

    -- A row more.
    pub listing_on : {H : List ℕ} {more : ℕ} → Pushed G H to count row r more → Listing F H s to (row + 1) more
    listing_on u = record { ok = l.ok; reach = omega arith; picking = picking_on l.picking u refl same }

  -- After the last row all are listed.
  pub listing_done : s.rows ≤ row → CoupledRows F G s to
  unfolding coupled_count_of coupled_rows_of
  listing_done h =
      let reach = l.reach in
      let e : row ≡ s.rows = omega arith in
      record { wrote = rw (picked_self (coupled_of (pattern_at F s)) s.rows) at (rw e at (picking_wrote l.picking)) }
