-- What the questions of a record tell, and how they go on. Assumes nothing.
use Rattle.std.specs.Prelude.{Result, Ok, Err}
use mathlib.Core.Path.{◌≡◌, refl, sym, ap, ◌∙◌}
use mathlib.Core.Bool.{Bool, true, false, not, ◌&&◌, and-true}
use mathlib.Core.List.{List}
use Prim.Native.Nat.{ℕ, ◌+◌, ◌-◌, ◌*◌, ◌≤◌, ◌<◌}
use native.Mathlib.Omega.{arith}
use lib.Dec.{eqb, leb}
use lib.Ieee.{Float}
use lib.ListN.{length}
use borrow.Author.Tests.{eq-eqb, leb-true, not-true, not-false}
use Rattle.refusal.specs.declared.Refusal.{Refusal}
use Rattle.refusal.specs.Refusal.{too_large, bad_offsets, bad_columns, bad_number, unequal_mirrors}
use Rattle.refusal.specs.Outcome.{Outcome, accepted, refused, passed, ask, ◌>>=◌, verdict_of}
use Rattle.refusal.proofs.Outcome.{passes}
use Rattle.store.specs.Region.{idx, at}
use Rattle.store.proofs.store.Each.{both_l, both_r}
use Rattle.store.proofs.store.Vector.{length_tab}
use Rattle.csr.specs.Questions.{size_ok, never_fall, offsets_ok, columns_ok, matrix_asked}
use Rattle.csr.proofs.csr.Walk.{offsets_on, offsets_fit, fit_rows, entry_told, columns_at_lem, size_told}
use Rattle.csr.proofs.csr.Laws.{asked_yes}
use Rattle.record_format.specs.Bytes.{u32_at, float_at}
use Rattle.record_format.specs.Format.{bad_record, Matrix, matrix_at}
use Rattle.record_format.specs.Steps.{WordIs}
use Rattle.matrix_writer.specs.declared.arrays.RowRange.{RowRange}
use Rattle.matrix_writer.specs.Text.{row_length}
use Rattle.matrix_writer.specs.Writing.{record_ok, writable, mirror_in, entry_asked, row_asked, entries_asked, record_asked}
use Rattle.matrix_writer.specs.Turns.{asked_from}
use Rattle.matrix_writer.specs.Contract.{sized_matrix, SizesFit, WordOf, RowsIn, RangeIs, StandsIn, Rises, Sound}
use Rattle.matrix_writer.proofs.Asking.{Asking, asking_start, asking_on, asking_stop, asking_done}

-- ---- entries

module _ {m : Matrix} {r e : ℕ} where
  -- An entry of a row is one of all.
  pub stands_within : Sound m → StandsIn m r e → e < m.entries
  stands_within s i =
      let h = i.row in
      let z = s.rows_in.ends r h in
      omega (arith, z, i.to)

  -- Its column is a row.
  pub stands_inside : {c : ℕ} → Sound m → StandsIn m r e → WordOf m.columns e c → c < m.rows
  stands_inside s i w = omega (arith, s.inside r e i, w.is)

module _ {m : Matrix} {r : ℕ} {s : RowRange} where
  -- The k-th entry of a row stands in it.
  pub stands_at_lem : {e : ℕ} → r < m.rows → RangeIs m r s → s.first ≤ e → e < s.last → StandsIn m r e
  stands_at_lem h w g i = record { row = h; from = omega (arith, w.first_is); to = omega (arith, w.last_is) }

  -- The columns of a row rise.
  pub range_rises : Sound m → r < m.rows → RangeIs m r s → Rises m.columns s.first s.last
  range_rises i h w = rw (w.first_is, w.last_is) (i.rises r h)

module _ (symmetric : Bool) (m : Matrix) (r e : ℕ) {x : Float} {t : Bool} (v : x ≡ at m.values e) (w : t ≡ writable x) where
  -- An entry's value cannot be written,
  pub entry_bad : not t ≡ true → Err bad_number ≡ verdict_of (entry_asked symmetric m r e)
  unfolding entry_asked
  entry_bad h = let z : writable (at m.values e) ≡ false = ap writable (sym v) ∙ sym w ∙ not-true t h in rw z

  -- it can, and the file is general,
  pub entry_general : not t ≡ false → not symmetric ≡ true → (Ok tt) ≡ verdict_of (entry_asked symmetric m r e)
  unfolding entry_asked
  entry_general h g = let z : writable (at m.values e) ≡ true = ap writable (sym v) ∙ sym w ∙ not-false t h in rw (z, g)

  module _ {c : ℕ} {u : Bool} (p : not t ≡ false) (q : not symmetric ≡ false) (y : WordOf m.columns e c) (k : u ≡ mirror_in m r e c) where
    -- or it has its mirror,
    pub entry_mirrored : u ≡ true → (Ok tt) ≡ verdict_of (entry_asked symmetric m r e)
    unfolding entry_asked
    entry_mirrored h =
        let z : writable (at m.values e) ≡ true = ap writable (sym v) ∙ sym w ∙ not-false t p in
        let n : mirror_in m r e (idx m.columns e) ≡ true = ap (mirror_in m r e) (sym y.is) ∙ sym k ∙ h in
        rw (z, q, n)

    -- or not.
    pub entry_alone : u ≡ false → Err unequal_mirrors ≡ verdict_of (entry_asked symmetric m r e)
    unfolding entry_asked
    entry_alone h =
        let z : writable (at m.values e) ≡ true = ap writable (sym v) ∙ sym w ∙ not-false t p in
        let n : mirror_in m r e (idx m.columns e) ≡ false = ap (mirror_in m r e) (sym y.is) ∙ sym k ∙ h in
        rw (z, q, n)

-- ---- the entries of a row

module _ (symmetric : Bool) (m : Matrix) (r : ℕ) {s : RowRange} (w : RangeIs m r s) where
  same_length : s.last - s.first ≡ row_length m r
  same_length = rw (w.first_is, w.last_is)

  pub row_begin : Asking (asked_from symmetric m r) (row_length m r) (s.first - idx m.offsets r)
  row_begin = let none : s.first - idx m.offsets r ≡ 0 = omega (arith, w.first_is) in rw none (asking_start (asked_from symmetric m r) (row_length m r))

  same_asked : {e : ℕ} {v : Result Unit Refusal} → s.first ≤ e → v ≡ verdict_of (entry_asked symmetric m r e) → v ≡ verdict_of (asked_from symmetric m r (e - idx m.offsets r))
  unfolding asked_from
  same_asked g i = i ∙ ap (λ (d : ℕ). verdict_of (entry_asked symmetric m r d)) (omega (arith, w.first_is))

  pub row_go : {e : ℕ} {v : Result Unit Refusal} → Asking (asked_from symmetric m r) (row_length m r) (e - idx m.offsets r) → s.first ≤ e → e < s.last → v ≡ verdict_of (entry_asked symmetric m r e) → v ≡ Ok tt
      → Asking (asked_from symmetric m r) (row_length m r) (e + 1 - idx m.offsets r)
  row_go {e} a g h i y =
      let next : e + 1 - idx m.offsets r ≡ e - idx m.offsets r + 1 = omega (arith, w.first_is) in
      rw next (asking_on a (omega (arith, same_length)) (same_asked g i) y)

  pub row_stop : {e : ℕ} {v : Result Unit Refusal} {q : Refusal} → Asking (asked_from symmetric m r) (row_length m r) (e - idx m.offsets r) → s.first ≤ e → e < s.last → v ≡ verdict_of (entry_asked symmetric m r e) → v ≡ Err q
      → Err q ≡ verdict_of (row_asked symmetric m r)
  unfolding row_asked asked_from
  row_stop a g h i y = asking_stop a (omega (arith, same_length)) (same_asked g i) y

  pub row_end : {e : ℕ} → Asking (asked_from symmetric m r) (row_length m r) (e - idx m.offsets r) → s.last ≤ e → (Ok tt) ≡ verdict_of (row_asked symmetric m r)
  unfolding row_asked asked_from
  row_end a h = asking_done a (omega (arith, same_length))

-- ---- the record

-- What question 1 tells.
pub sizes_told : {rows entries : ℕ} {t : Bool} → t ≡ (leb rows 65536 && leb entries 1048576) → not t ≡ false → SizesFit rows entries
sizes_told {rows} {entries} {t} e h =
    let z : (leb rows 65536 && leb entries 1048576) ≡ true = sym e ∙ not-false t h in
    record {
      few = leb-true rows 65536 (both_l (leb rows 65536) (leb entries 1048576) z);
      short = leb-true entries 1048576 (both_r (leb rows 65536) (leb entries 1048576) z);
    }

-- A record of another mark or length is refused.
pub record_bad : (symmetric : Bool) (b : List ℕ) {k : Bool} → k ≡ record_ok b → not k ≡ true → Err bad_record ≡ verdict_of (record_asked symmetric b)
unfolding record_asked
record_bad symmetric b {k} o h = let z : record_ok b ≡ false = sym o ∙ not-true k h in rw z

module _ (b : List ℕ) (rows entries : ℕ) where
  abbrev offs : List ℕ
  offs = (sized_matrix b rows entries).offsets

  abbrev cols : List ℕ
  cols = (sized_matrix b rows entries).columns

  abbrev vals : List Float
  vals = (sized_matrix b rows entries).values

  offs_length : length offs ≡ rows + 1
  offs_length = length_tab (λ k. u32_at b (10 + 4 * k)) (rows + 1)

  cols_length : length cols ≡ entries
  cols_length = length_tab (λ k. u32_at b (14 + 4 * rows + 4 * k)) entries

  vals_length : length vals ≡ entries
  vals_length = length_tab (λ k. float_at b (14 + 4 * rows + 4 * entries + 8 * k)) entries

  -- Question 2 as the code asks it.
  pub offsets_is : {start end : ℕ} {never : Bool} → WordOf offs 0 start → WordOf offs rows end → never ≡ never_fall rows offs
      → (eqb start 0 && never && eqb end entries) ≡ offsets_ok rows offs cols vals
  offsets_is {start} {end} {never} x y n =
      pieces ∙ offsets_on rows offs cols vals never end offs_length n y.is
    where
      full : eqb (length vals) (length cols) ≡ true
      full = eq-eqb (length vals) (length cols) (vals_length ∙ sym cols_length)

      pieces : (eqb start 0 && never && eqb end entries) ≡ (eqb (idx offs 0) 0 && never && eqb end (length cols) && eqb (length vals) (length cols))
      pieces = rw (full, cols_length, x.is) (sym (and-true _))

  -- It passed: the rows lie among the entries.
  pub offsets_told : offsets_ok rows offs cols vals ≡ true → RowsIn (sized_matrix b rows entries)
  offsets_told t =
      let f = offsets_fit rows offs cols vals t in
      let w = fit_rows rows offs cols vals f in
      record {
        first = f.first;
        starts = w.starts;
        ends = λ r h. let z = w.ends r h in omega (arith, cols_length);
      }

  -- Questions 2 and 3 passed.
  pub columns_told : offsets_ok rows offs cols vals ≡ true → columns_ok rows offs cols ≡ true → Sound (sized_matrix b rows entries)
  columns_told s t = record {
    rows_in = offsets_told s;
    inside = λ r e i. (entry_told rows cols (idx offs (r + 1)) e (columns_at_lem rows offs cols t r e i.row i.from i.to)).0;
    rises = λ r h. record {
      step = λ e lo hi. (entry_told rows cols (idx offs (r + 1)) e (columns_at_lem rows offs cols t r e h lo (omega arith))).1 hi;
    };
  }

  -- Question 1 as the code asks it.
  sizes_is : size_ok rows cols ≡ (leb rows 65536 && leb entries 1048576)
  unfolding size_ok
  sizes_is = rw cols_length

  module _ (symmetric : Bool) {k : Bool} (p : WordIs b 2 rows) (q : WordIs b 6 entries) (o : k ≡ record_ok b) where
    -- A record of that mark and length: the other questions follow.
    opened : not k ≡ false → record_asked symmetric b ≡ (◌>>=◌ (matrix_asked rows offs cols vals) (λ _. entries_asked symmetric (sized_matrix b rows entries)))
    unfolding record_asked
    opened h = let z : record_ok b ≡ true = sym o ∙ not-false k h in rw (p.is, q.is, z)

    module _ {t : Bool} (y : not k ≡ false) (e : t ≡ (leb rows 65536 && leb entries 1048576)) where
      pub sizes_bad : not t ≡ true → Err too_large ≡ verdict_of (record_asked symmetric b)
      sizes_bad h =
          let z : size_ok rows cols ≡ false = sizes_is ∙ sym e ∙ not-true t h in
          rw (opened y, z)

      module _ {u : Bool} (f : not t ≡ false) (g : u ≡ offsets_ok rows offs cols vals) where
        pub offsets_bad : not u ≡ true → Err bad_offsets ≡ verdict_of (record_asked symmetric b)
        offsets_bad h =
            let z : size_ok rows cols ≡ true = sizes_is ∙ sym e ∙ not-false t f in
            let w : offsets_ok rows offs cols vals ≡ false = sym g ∙ not-true u h in
            rw (opened y, z, w)

        module _ {v : Bool} (i : not u ≡ false) (j : v ≡ columns_ok rows offs cols) where
          pub columns_bad : not v ≡ true → Err bad_columns ≡ verdict_of (record_asked symmetric b)
          columns_bad h =
              let z : size_ok rows cols ≡ true = sizes_is ∙ sym e ∙ not-false t f in
              let w : offsets_ok rows offs cols vals ≡ true = sym g ∙ not-false u i in
              let x : columns_ok rows offs cols ≡ false = sym j ∙ not-true v h in
              rw (opened y, z, w, x)

          pub arrays_good : {a : Result Unit Refusal} → not v ≡ false → a ≡ verdict_of (entries_asked symmetric (sized_matrix b rows entries)) → a ≡ verdict_of (record_asked symmetric b)
          arrays_good h l =
              let z : size_ok rows cols ≡ true = sizes_is ∙ sym e ∙ not-false t f in
              let w : offsets_ok rows offs cols vals ≡ true = sym g ∙ not-false u i in
              let x : columns_ok rows offs cols ≡ true = sym j ∙ not-false v h in
              l ∙ rw (opened y, z, w, x)

-- what is followed by more passed where all passed
first_passed : (o : Outcome Unit) (f : Unit → Outcome Unit) → verdict_of (◌>>=◌ o f) ≡ Ok tt → verdict_of o ≡ Ok tt
first_passed (accepted a) f e = refl
first_passed (refused q) f e = e

-- A record that passed has few enough rows and entries, and its rows lie among the entries.
pub ready : (symmetric : Bool) (b : List ℕ) {rows entries : ℕ} → WordIs b 2 rows → WordIs b 6 entries → record_asked symmetric b ≡ passed
    → SizesFit rows entries × RowsIn (sized_matrix b rows entries)
unfolding record_asked
ready symmetric b {rows} {entries} p q e =
    let m = matrix_at b in
    let next = ◌>>=◌ (matrix_asked m.rows m.offsets m.columns m.values) (λ _. entries_asked symmetric m) in
    let d : verdict_of (ask (record_ok b) bad_record next) ≡ Ok tt = ap verdict_of e in
    let a = asked_yes (record_ok b) bad_record next d in
    let f = first_passed (matrix_asked m.rows m.offsets m.columns m.values) (λ _. entries_asked symmetric m) a.1 in
    let g = asked_yes (size_ok m.rows m.columns) too_large (ask (offsets_ok m.rows m.offsets m.columns m.values) bad_offsets (ask (columns_ok m.rows m.offsets m.columns) bad_columns passed)) f in
    let h = asked_yes (offsets_ok m.rows m.offsets m.columns m.values) bad_offsets (ask (columns_ok m.rows m.offsets m.columns) bad_columns passed) g.1 in
    let s = size_told m.rows m.columns g.0 in
    rw (p.is, q.is) (
      record { few = s.0; short = omega (arith, s.1, cols_length b m.rows m.entries) },
      offsets_told b m.rows m.entries h.0,
    )

-- what follows passed where all passed
then_passed : (o r : Outcome Unit) → verdict_of (◌>>=◌ o (λ _. r)) ≡ Ok tt → verdict_of r ≡ Ok tt
then_passed (accepted a) r e = e
then_passed (refused q) r e = absurd (let none : ◌≡◌ {A = ℕ} 0 1 = cc in omega arith)

-- A record that passed has sound arrays, its entries passed, and its rows are few.
pub sound_ready : (symmetric : Bool) (b : List ℕ) → record_asked symmetric b ≡ passed
    → Sound (matrix_at b) × (entries_asked symmetric (matrix_at b) ≡ passed) × ((matrix_at b).rows ≤ 65536)
unfolding record_asked
sound_ready symmetric b e =
    let m = matrix_at b in
    let asked = matrix_asked m.rows m.offsets m.columns m.values in
    let next = ◌>>=◌ asked (λ _. entries_asked symmetric m) in
    let d : verdict_of (ask (record_ok b) bad_record next) ≡ Ok tt = ap verdict_of e in
    let a = asked_yes (record_ok b) bad_record next d in
    let f = first_passed asked (λ _. entries_asked symmetric m) a.1 in
    let g = asked_yes (size_ok m.rows m.columns) too_large (ask (offsets_ok m.rows m.offsets m.columns m.values) bad_offsets (ask (columns_ok m.rows m.offsets m.columns) bad_columns passed)) f in
    let h = asked_yes (offsets_ok m.rows m.offsets m.columns m.values) bad_offsets (ask (columns_ok m.rows m.offsets m.columns) bad_columns passed) g.1 in
    let i = asked_yes (columns_ok m.rows m.offsets m.columns) bad_columns passed h.1 in (
      columns_told b m.rows m.entries h.0 i.0,
      passes (entries_asked symmetric m) refl (then_passed asked (entries_asked symmetric m) a.1),
      (size_told m.rows m.columns g.0).0,
    )
