-- Entries of a pattern: rows rise with them, and where the one in a given row and column stands.
-- Assumes nothing.
use mathlib.Core.Path.{◌≡◌, refl, sym, ◌∙◌}
use mathlib.Core.Bool.{true, false, ◌&&◌}
use mathlib.Core.Logic.{⊎_elim}
use Prim.Native.Nat.{ℕ, ◌+◌, ◌-◌, ◌≤◌, ◌<◌}
use native.Mathlib.Omega.{arith}
use lib.Dec.{eqb, ltb, leb}
use borrow.Author.Tests.{eqb-true, eq-eqb, leb-true, le-leb, lt-ltb, le-ltb}
use Rattle.store.specs.Region.{idx}
use Rattle.store.proofs.store.Region.{le_or_lt}
use Rattle.store.proofs.store.Each.{both_l, both_r}
use Rattle.pattern.specs.Pattern.{how_many, Pattern, entries, column_of, row_of, Valid, Rising}
use Rattle.pattern.proofs.pattern.Number.{bool?, some_at, some_which, many_first, many_sub}
use Rattle.pattern.proofs.pattern.Row.{offset_mono, row_is, row_in}
use Rattle.galerkin_theorem.proofs.Mirror.{column_rises}
use Rattle.faces.specs.Faces.{has_entry, stands_at}

module _ (p : Pattern) where
  -- Rows never fall.
  pub row_mono : (d e : ℕ) → d ≤ e → row_of p d ≤ row_of p e
  unfolding row_of
  row_mono d e h = many_sub (λ i. leb (idx p.offsets (i + 1)) d) (λ i. leb (idx p.offsets (i + 1)) e) p.rows
      (λ i t. let b = leb-true (idx p.offsets (i + 1)) d t in le-leb (idx p.offsets (i + 1)) e (omega arith))

  -- ---- whether there is an entry

  -- An entry is one of its row and column.
  pub has_at : (i j e : ℕ) → e < entries p → row_of p e ≡ i → column_of p e ≡ j → has_entry p i j ≡ true
  unfolding has_entry
  has_at i j e h r c = some_at (λ d. eqb (row_of p d) i && eqb (column_of p d) j) (entries p) e h
      (rw (eq-eqb (row_of p e) i r, eq-eqb (column_of p e) j c) refl)

  -- Where there is one, it can be named.
  pub has_which : (i j : ℕ) → has_entry p i j ≡ true → (e : ℕ) × (e < entries p) × (row_of p e ≡ i) × (column_of p e ≡ j)
  unfolding has_entry
  has_which i j t =
      let v = some_which (λ d. eqb (row_of p d) i && eqb (column_of p d) j) (entries p) t in
      let e = v.0 in (
        e,
        v.1,
        eqb-true (row_of p e) i (both_l (eqb (row_of p e) i) (eqb (column_of p e) j) v.2),
        eqb-true (column_of p e) j (both_r (eqb (row_of p e) i) (eqb (column_of p e) j) v.2),
      )

module _ {p : Pattern} (valid : Valid p) where
  -- Offsets are at most the number of entries.
  pub offset_few : (i : ℕ) → i ≤ p.rows → idx p.offsets i ≤ entries p
  offset_few i h = let m = offset_mono valid i p.rows h (omega arith) in let l = valid.last in omega arith

  -- Where a row has no entry in a column, there is none.
  pub has_none : (i j : ℕ) → ((e : ℕ) → idx p.offsets i ≤ e → e < idx p.offsets (i + 1) → column_of p e ≡ j → ⊥) → has_entry p i j ≡
      false
  has_none i j none = ⊎_elim
      (λ t.
      let v = has_which p i j t in
      let b = row_in valid v.0 v.1 in
      absurd (none v.0 (rw v.2 at b.1) (rw v.2 at b.2) v.3))
      (λ f. f) (bool? (has_entry p i j))

  module _ (rising : Rising p) where
    -- Within a row columns rise.
    pub columns_rise : (i d e : ℕ) → i < p.rows → idx p.offsets i ≤ d → d < e → e < idx p.offsets (i + 1) → column_of p d <
        column_of p e
    columns_rise i d e h lo l hi =
        let few = offset_few (i + 1) (omega arith) in
        column_rises p valid rising (e - d - 1) d e (omega arith) (omega arith)
        (row_is valid i d h lo (omega arith) ∙ sym (row_is valid i e h (omega arith) hi))

    -- A column stands where the row's columns below it end.
    pub stands_is : (i j r : ℕ) → idx p.offsets i ≤ r → r ≤ idx p.offsets (i + 1)
        → ((e : ℕ) → idx p.offsets i ≤ e → e < r → column_of p e < j)
        → ((e : ℕ) → r ≤ e → e < idx p.offsets (i + 1) → j ≤ column_of p e) → stands_at p i j ≡ r
    unfolding stands_at
    stands_is i j r lo hi below past =
        let start = idx p.offsets i in
        let end = idx p.offsets (i + 1) in
        let m : how_many (λ k. ltb (column_of p (start + k)) j) (end - start) ≡ r - start =
        many_first (λ k. ltb (column_of p (start + k)) j) (end - start) (r - start) (omega arith)
        (λ k l. lt-ltb (column_of p (start + k)) j (below (start + k) (omega arith) (omega arith)))
        (λ k l u. le-ltb (column_of p (start + k)) j (past (start + k) (omega arith) (omega arith))) in
        omega arith

    -- An entry stands where its row and column say.
    pub stands_entry : (e : ℕ) → e < entries p → stands_at p (row_of p e) (column_of p e) ≡ e
    stands_entry e h =
        let b = row_in valid e h in
        let i = row_of p e in
        let hi = b.2 in
        let lo = b.1 in
        stands_is i (column_of p e) e lo (omega arith)
        (λ d l u. columns_rise i d e b.0 l u hi)
        (λ d l u. ⊎_elim
        (λ (w : d ≤ e). let same : d ≡ e = omega arith in rw same (omega arith))
        (λ (w : e < d). let r = columns_rise i e d b.0 lo w u in omega arith)
        (le_or_lt d e))

    -- Where there is an entry, it stands there.
    pub stands_there : (i j : ℕ) → has_entry p i j ≡ true
        → (stands_at p i j < entries p) × (row_of p (stands_at p i j) ≡ i) × (column_of p (stands_at p i j) ≡ j)
    stands_there i j t =
        let v = has_which p i j t in
        let s : stands_at p i j ≡ v.0 = rw (v.2, v.3) at (stands_entry v.0 v.1) in
        rw s (v.1, v.2, v.3)

    -- A row without the column at its place r has no such entry.
    pub has_no : (i j r : ℕ) → i < p.rows → idx p.offsets i ≤ r
        → ((e : ℕ) → idx p.offsets i ≤ e → e < r → column_of p e < j)
        → ((e : ℕ) → r ≤ e → e < idx p.offsets (i + 1) → j ≤ column_of p e)
        → (r < idx p.offsets (i + 1) → column_of p r ≡ j → ⊥) → has_entry p i j ≡ false
    has_no i j r h lo below past other = has_none i j (λ e l u is. ⊎_elim
        (λ (w : r ≤ e). ⊎_elim
        (λ (v : e ≤ r). let same : e ≡ r = omega arith in other (rw same at u) (rw same at is))
        (λ (v : r < e). let a = columns_rise i r e h lo v u in let b = past r (omega arith) (omega arith) in omega arith)
        (le_or_lt e r))
        (λ (w : e < r). let a = below e l w in omega arith)
        (le_or_lt r e))
