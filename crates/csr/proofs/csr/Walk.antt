-- The tests of the loops as the code has them, and what each question tells.
-- Assumes nothing.
use mathlib.Core.Path.{◌≡◌, refl, sym, ◌∙◌}
use mathlib.Core.Bool.{Bool, true, false, ◌&&◌, ◌||◌, and-true, false≢true}
use mathlib.Core.List.{List}
use mathlib.Core.Logic.{⊎_elim}
use Prim.Native.Nat.{ℕ, ◌+◌, ◌-◌, ◌≤◌, ◌<◌}
use native.Mathlib.Omega.{arith}
use lib.Dec.{eqb, leb, ltb}
use lib.Ieee.{Float}
use lib.ListN.{length}
use borrow.Author.Tests.{ltb-true, leb-true, eqb-true, lt-ltb, le-leb, lt-leb, eq-eqb, ne_eqb}
use Rattle.store.specs.Region.{idx}
use Rattle.store.specs.Vector.{filled}
use Rattle.store.proofs.store.Region.{le_or_lt}
use Rattle.store.proofs.store.Vector.{length_tab, get_d_tab}
use Rattle.store.proofs.store.Each.{Passed, both_l, both_r, each_at, passed_on, passed_no, each_all}
use Rattle.pattern.specs.Pattern.{Valid}
use Rattle.pattern.proofs.pattern.Row.{offset_mono, row_in}
use Rattle.csr.specs.Questions.{size_ok, never_fall, offsets_ok, entry_ok, row_ok, columns_ok}
use Rattle.csr.specs.Contract.{Rowed}
use Rattle.csr.specs.Turns.{step_ok, entry_from, row_at}

-- ---- question 1

-- What question 1 tells.
pub size_told : (rows : ℕ) (columns : List ℕ) → size_ok rows columns ≡ true → (rows ≤ 65536) × (length columns ≤ 1048576)
unfolding size_ok
size_told rows columns t = (
  leb-true rows 65536 (both_l (leb rows 65536) (leb (length columns) 1048576) t),
  leb-true (length columns) 1048576 (both_r (leb rows 65536) (leb (length columns) 1048576) t),
)

-- ---- the loop of `never_fall`

-- A row that does not end before it starts passes.
pub step_on : (offsets : List ℕ) {rows row : ℕ} → Passed (step_ok offsets) rows row → row < rows
    → idx offsets row ≤ idx offsets (row + 1) → Passed (step_ok offsets) rows (row + 1)
unfolding step_ok
step_on offsets {rows} {row} p h l = passed_on p h refl (le-leb (idx offsets row) (idx offsets (row + 1)) l)

-- One that does ends the walk.
pub step_no : (offsets : List ℕ) (rows row : ℕ) → row < rows → idx offsets (row + 1) < idx offsets row → false ≡ never_fall rows offsets
unfolding never_fall step_ok
step_no offsets rows row h l = passed_no (step_ok offsets) rows row false h (sym (lt-leb (idx offsets row) (idx offsets (row + 1)) l)) refl

-- ---- question 2

-- Five tests that hold together hold.
all_five : (a b c d e : Bool) → (a && b && c && d && e) ≡ true → (a ≡ true) × (b ≡ true) × (c ≡ true) × (d ≡ true) × (e ≡ true)
all_five true true true true true t = (refl, refl, refl, refl, refl)
all_five false b c d e t = absurd (false≢true t)
all_five true false c d e t = absurd (false≢true t)
all_five true true false d e t = absurd (false≢true t)
all_five true true true false e t = absurd (false≢true t)
all_five true true true true false t = absurd (false≢true t)

-- What question 2 tells of the offsets.
pub record Fits (rows : ℕ) (offsets columns : List ℕ) (values : List Float) : Type 0 where
  pub size : length offsets ≡ rows + 1
  pub first : idx offsets 0 ≡ 0
  pub rises : (r : ℕ) → r < rows → idx offsets r ≤ idx offsets (r + 1)
  pub last : idx offsets rows ≡ length columns
  pub counted : length values ≡ length columns

module _ (rows : ℕ) (offsets columns : List ℕ) (values : List Float) where
  -- Where the offsets are not rows + 1, the answer is no.
  pub offsets_no : (length offsets ≡ rows + 1 → ⊥) → false ≡ offsets_ok rows offsets columns values
  unfolding offsets_ok
  offsets_no h = rw (ne_eqb (length offsets) (rows + 1) h)

  -- Where they are, the answer is that of the other tests.
  pub offsets_on : (never : Bool) (end : ℕ) → length offsets ≡ rows + 1 → never ≡ never_fall rows offsets → end ≡ idx offsets rows
      → (eqb (idx offsets 0) 0 && never && eqb end (length columns) && eqb (length values) (length columns))
      ≡ offsets_ok rows offsets columns values
  unfolding offsets_ok
  offsets_on never end h e f = rw (eq-eqb (length offsets) (rows + 1) h, e, f)

  -- Question 2 passed.
  pub offsets_fit : offsets_ok rows offsets columns values ≡ true → Fits rows offsets columns values
  unfolding offsets_ok never_fall step_ok
  offsets_fit t =
      let u = all_five (eqb (length offsets) (rows + 1)) (eqb (idx offsets 0) 0) (never_fall rows offsets)
      (eqb (idx offsets rows) (length columns)) (eqb (length values) (length columns)) t in
      record {
        size = eqb-true (length offsets) (rows + 1) u.0;
        first = eqb-true (idx offsets 0) 0 u.1;
        rises = λ r h. leb-true (idx offsets r) (idx offsets (r + 1)) (each_at (step_ok offsets) rows u.2 r h);
        last = eqb-true (idx offsets rows) (length columns) u.3;
        counted = eqb-true (length values) (length columns) u.4;
      }

  -- It passes where the offsets are such.
  pub fit_offsets : Fits rows offsets columns values → offsets_ok rows offsets columns values ≡ true
  unfolding offsets_ok never_fall step_ok
  fit_offsets f = rw (
    eq-eqb (length offsets) (rows + 1) f.size,
    eq-eqb (idx offsets 0) 0 f.first,
    each_all (step_ok offsets) rows (λ r h. le-leb (idx offsets r) (idx offsets (r + 1)) (f.rises r h)),
    eq-eqb (idx offsets rows) (length columns) f.last,
    eq-eqb (length values) (length columns) f.counted,
  )

  -- The offsets alone are those of a valid pattern, whose columns are all zero.
  fit_valid : Fits rows offsets columns values → Valid (record { rows = rows; offsets = offsets; columns = filled (length columns) 0 })
  fit_valid f =
      let long = length_tab {A = ℕ} (λ _. 0) (length columns) in
      record {
        size = f.size;
        first = f.first;
        rises = f.rises;
        last = f.last ∙ sym long;
        inside = λ e h.
            let a = f.first in let b = f.last in
            rw (get_d_tab {A = ℕ} (λ _. 0) (length columns) e 0 (omega arith)) (some_row a b (omega arith));
      }
    where
      some_row : idx offsets 0 ≡ 0 → idx offsets rows ≡ length columns → 0 < length columns → 0 < rows
      some_row a b h = ⊎_elim
          (λ (w : rows ≤ 0). let z : rows ≡ 0 = omega arith in let y = rw z at b in absurd (omega arith))
          (λ (w : 0 < rows). w)
          (le_or_lt rows 0)

  -- Each row lies among the entries.
  pub fit_rows : Fits rows offsets columns values → Rowed rows offsets columns
  fit_rows f = record {
    size = f.size;
    starts = f.rises;
    ends = λ r h. let z = offset_mono (fit_valid f) (r + 1) rows (omega arith) (omega arith) in let y = f.last in omega arith;
  }

  -- An entry stands in some row.
  pub fit_in : Fits rows offsets columns values → (e : ℕ) → e < length columns
      → (r : ℕ) × (r < rows) × (idx offsets r ≤ e) × (e < idx offsets (r + 1))
  fit_in f e h =
      let long = length_tab {A = ℕ} (λ _. 0) (length columns) in
      let w = row_in (fit_valid f) e (omega arith) in
      (_, w.0, w.1, w.2)

-- ---- question 3

module _ (rows : ℕ) (columns : List ℕ) (last e : ℕ) where
  -- The last entry of a row is below the rows; x is its column.
  pub entry_last : (x : ℕ) → x ≡ idx columns e → last ≤ e + 1 → ltb x rows ≡ entry_ok rows columns last e
  unfolding entry_ok
  entry_last x d h = rw (d, le-leb last (e + 1) h) (sym (and-true (ltb (idx columns e) rows)))

  -- Any other is below the next one, too.
  pub entry_next : (x : ℕ) → x ≡ idx columns e → e + 1 < last
      → (ltb x rows && ltb (idx columns e) (idx columns (e + 1))) ≡ entry_ok rows columns last e
  unfolding entry_ok
  entry_next x d h = rw (d, lt-leb last (e + 1) h)

  -- What the test of an entry tells.
  pub entry_told : entry_ok rows columns last e ≡ true
      → (idx columns e < rows) × (e + 1 < last → idx columns e < idx columns (e + 1))
  unfolding entry_ok
  entry_told t = (
    ltb-true (idx columns e) rows (both_l (ltb (idx columns e) rows) _ t),
    λ h. ltb-true (idx columns e) (idx columns (e + 1))
        (rw (lt-leb last (e + 1) h) at (both_r (ltb (idx columns e) rows) (leb last (e + 1) || ltb (idx columns e) (idx columns (e + 1))) t)),
  )

  -- It passes of an entry that is such.
  pub told_entry : idx columns e < rows → (e + 1 < last → idx columns e < idx columns (e + 1)) → entry_ok rows columns last e ≡ true
  unfolding entry_ok
  told_entry h l = rw (lt-ltb (idx columns e) rows h) (⊎_elim
      (λ (w : last ≤ e + 1). rw (le-leb last (e + 1) w))
      (λ (w : e + 1 < last). rw (lt-leb last (e + 1) w) (lt-ltb (idx columns e) (idx columns (e + 1)) (l w)))
      (le_or_lt last (e + 1)))

module _ (rows : ℕ) (offsets columns : List ℕ) where
  -- Question 3 passed: so has each entry of each row.
  pub columns_at_lem : columns_ok rows offsets columns ≡ true → (r e : ℕ) → r < rows → idx offsets r ≤ e → e < idx offsets (r + 1)
      → entry_ok rows columns (idx offsets (r + 1)) e ≡ true
  unfolding columns_ok row_at row_ok entry_from
  columns_at_lem t r e h lo hi =
      let z : idx offsets r + (e - idx offsets r) ≡ e = omega arith in
      rw z at (each_at (entry_from rows columns (idx offsets r) (idx offsets (r + 1))) (idx offsets (r + 1) - idx offsets r)
      (each_at (row_at rows offsets columns) rows t r h) (e - idx offsets r) (omega arith))

  -- It passes where each entry of each row does.
  pub at_columns : ((r e : ℕ) → r < rows → idx offsets r ≤ e → e < idx offsets (r + 1) → entry_ok rows columns (idx offsets (r + 1)) e ≡ true)
      → columns_ok rows offsets columns ≡ true
  unfolding columns_ok row_at row_ok entry_from
  at_columns f = each_all (row_at rows offsets columns) rows
      (λ r h. each_all (entry_from rows columns (idx offsets r) (idx offsets (r + 1))) (idx offsets (r + 1) - idx offsets r)
      (λ k l. f r (idx offsets r + k) h (omega arith) (omega arith)))

-- ---- the loop of `columns_rise`

-- The entries of row r as the code has them: from a to b.
pub row_ok_lem : {rows r a b : ℕ} {offsets columns : List ℕ} → Rowed rows offsets columns → r < rows → a ≡ idx offsets r → b ≡ idx offsets (r + 1)
    → (a ≤ b) × (b ≤ length columns)
row_ok_lem {rows} {r} o h d e = rw (d, e) (o.starts r h, o.ends r h)

-- A row whose test holds passes.
pub row_on : (offsets columns : List ℕ) {rows r a b : ℕ} {t : Bool} → Passed (row_at rows offsets columns) rows r → r < rows
    → a ≡ idx offsets r → b ≡ idx offsets (r + 1) → t ≡ row_ok rows columns a b → t ≡ true → Passed (row_at rows offsets columns) rows (r + 1)
unfolding row_at
row_on offsets columns p h d e t y = passed_on p h (rw (d, e) at t) y

-- One whose test fails ends the walk.
pub row_no : (rows : ℕ) (offsets columns : List ℕ) (r a b : ℕ) (t : Bool) → r < rows
    → a ≡ idx offsets r → b ≡ idx offsets (r + 1) → t ≡ row_ok rows columns a b → t ≡ false → false ≡ columns_ok rows offsets columns
unfolding columns_ok row_at
row_no rows offsets columns r a b t h d e f n = passed_no (row_at rows offsets columns) rows r t h (rw (d, e) at f) n
