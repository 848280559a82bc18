-- Laws of `row_of` and `joins`: the row of an entry is the one whose offsets enclose it, and what entries join, a pair is.
-- Assumes nothing.
use mathlib.Core.Path.{◌≡◌, refl}
use mathlib.Core.Bool.{Bool, true, false, cond, ◌&&◌}
use mathlib.Core.List.{List}
use mathlib.Core.Logic.{⊎_elim}
use Prim.Native.Nat.{ℕ, zero, suc, ◌+◌, ◌≤◌, ◌<◌}
use native.Mathlib.Numerals.{add-one}
use native.Mathlib.Omega.{arith}
use lib.Dec.{eqb, leb}
use borrow.Author.Tests.{eqb-true, eq-eqb, le-leb, lt-leb}
use Rattle.store.specs.Region.{idx}
use Rattle.store.proofs.store.Region.{le_or_lt}
use Rattle.store.proofs.store.Each.{both_l, both_r}
use Rattle.pattern.specs.Pattern.{some, how_many, sum_to, Pattern, entries, column_of, row_of, Valid, Mirrored, start_of, joins, Maps}
use Rattle.pattern.specs.Steps.{joins_by}
use Rattle.pattern.proofs.pattern.Number.{both_ways, some_at, some_which, many_first, many_none, many_extra, many_one, sum_none, sum_extra}

module _ {p : Pattern} (valid : Valid p) where
  -- Offsets never fall.
  pub offset_mono : (i j : ℕ) → i ≤ j → j ≤ p.rows → idx p.offsets i ≤ idx p.offsets j
  offset_mono i zero h l = let e : i ≡ 0 = omega arith in rw e (omega arith)
  offset_mono i (suc j) h l = ⊎_elim
      (λ (w : suc j ≤ i). let e : i ≡ suc j = omega arith in rw e (omega arith))
      (λ (w : i < suc j). let z = offset_mono i j (omega arith) (omega arith) in let y =
      rw add-one at (valid.rises j l) in omega arith)
      (le_or_lt (suc j) i)

  -- The row of an entry between its offsets is that row.
  pub row_is : (i e : ℕ) → i < p.rows → idx p.offsets i ≤ e → e < idx p.offsets (i + 1) → row_of p e ≡ i
  unfolding row_of
  row_is i e h lo hi = many_first (λ k. leb (idx p.offsets (k + 1)) e) p.rows i (omega arith)
      (λ k l. let z = offset_mono (k + 1) i (omega arith) (omega arith) in le-leb (idx p.offsets (k + 1)) e
      (omega arith))
      (λ k l m. let z = offset_mono (i + 1) (k + 1) (omega arith) (omega arith) in lt-leb (idx p.offsets (k + 1)) e
      (omega arith))

  enclosed : (n e : ℕ) → n ≤ p.rows → e < idx p.offsets n
      → (i : ℕ) × (i < n) × (idx p.offsets i ≤ e) × (e < idx p.offsets (i + 1))
  enclosed zero e h l = absurd (let z = valid.first in omega arith)
  enclosed (suc n) e h l = ⊎_elim
      (λ (w : idx p.offsets n ≤ e). (n, omega arith, w, rw add-one l))
      (λ (w : e < idx p.offsets n). let v = enclosed n e (omega arith) w in let b =
      v.1 in (v.0, omega arith, v.2, v.3))
      (le_or_lt (idx p.offsets n) e)

  -- An entry lies between the offsets of its row.
  pub row_in : (e : ℕ) → e < entries p → (row_of p e < p.rows) × (idx p.offsets (row_of p e) ≤ e) ×
      (e < idx p.offsets (row_of p e + 1))
  row_in e h =
      let v = enclosed p.rows e (omega arith) (rw valid.last h) in
      rw (row_is v.0 e v.1 v.2 v.3) (v.1, v.2, v.3)

  -- Between the offsets of two rows stand the entries of the rows from the one to the other.
  pub row_between : (i j e : ℕ) → i ≤ p.rows → j ≤ p.rows → idx p.offsets i ≤ e → e < idx p.offsets j
      → (i ≤ row_of p e) × (row_of p e < j)
  row_between i j e k h lo hi =
      let m = offset_mono j p.rows h (omega arith) in
      let last = valid.last in
      let w = row_in e (omega arith) in
      let w₀ = w.0 in let w₁ = w.1 in let w₂ = w.2 in (
        ⊎_elim (λ (v : i ≤ row_of p e). v) (λ (v : row_of p e < i). let z =
            offset_mono (row_of p e + 1) i (omega arith) k in absurd (omega arith)) (le_or_lt i (row_of p e)),
        ⊎_elim (λ (v : j ≤ row_of p e). let z = offset_mono j (row_of p e) v (omega arith) in absurd (omega arith))
            (λ (v : row_of p e < j). v) (le_or_lt j (row_of p e)),
      )

-- ---- joins

module _ (p : Pattern) (map : List ℕ) where
  -- An entry joins the aggregates of its row and its column.
  pub joins_by_lem : (e : ℕ) → joins_by p map (idx map (row_of p e)) (idx map (column_of p e)) e ≡ true
  unfolding joins_by
  joins_by_lem e = rw (
    eq-eqb (idx map (row_of p e)) (idx map (row_of p e)) refl,
    eq-eqb (idx map (column_of p e)) (idx map (column_of p e)) refl,
  ) refl

  -- It joins no others.
  pub joins_only : (a b e : ℕ) → joins_by p map a b e ≡ true → (idx map (row_of p e) ≡ a) × (idx map (column_of p e) ≡ b)
  unfolding joins_by
  joins_only a b e t = (
    eqb-true (idx map (row_of p e)) a (both_l (eqb (idx map (row_of p e)) a) (eqb (idx map (column_of p e)) b) t),
    eqb-true (idx map (column_of p e)) b (both_r (eqb (idx map (row_of p e)) a) (eqb (idx map (column_of p e)) b) t),
  )

  -- What an entry joins is joined.
  pub joins_at : (e : ℕ) → e < entries p → joins p map (idx map (row_of p e)) (idx map (column_of p e)) ≡ true
  unfolding joins joins_by
  joins_at e h = some_at (joins_by p map (idx map (row_of p e)) (idx map (column_of p e))) (entries p) e h (joins_by_lem e)

  -- Of what is joined, an entry can be named.
  pub joins_which : (a b : ℕ) → joins p map a b ≡ true → (e : ℕ) × (e < entries p) × (idx map (row_of p e) ≡ a) ×
      (idx map (column_of p e) ≡ b)
  unfolding joins joins_by
  joins_which a b t =
      let u = some_which (joins_by p map a b) (entries p) t in
      let w = joins_only a b u.0 u.2 in
      (u.0, u.1, w.0, w.1)

  -- Of a valid pattern only aggregates are joined.
  pub joins_below : {count : ℕ} → Valid p → Maps map p.rows count → (a b : ℕ) → joins p map a b ≡ true
      → (a < count) × (b < count)
  joins_below {count} v m a b t =
      let u = joins_which a b t in
      let r = (row_in v u.0 u.1).0 in (
        rw u.2 at (m.below (row_of p u.0) r),
        rw u.3 at
            (m.below (column_of p u.0) (v.inside u.0 u.1)),
      )

  -- Of a mirrored pattern what is joined is joined both ways.
  pub joins_mirror : Mirrored p → (a b : ℕ) → joins p map a b ≡ joins p map b a
  joins_mirror m a b = both_ways (joins p map a b) (joins p map b a) (back a b) (back b a)
    where
      back : (a b : ℕ) → joins p map a b ≡ true → joins p map b a ≡ true
      back a b t =
          let u = joins_which a b t in
          let d = m.mirror u.0 u.1 in
          rw (d.2, d.3, u.2, u.3) at (joins_at d.0 d.1)

  -- ---- there are no more pairs than entries

  one_more : (e count a : ℕ) → how_many (λ b. joins_by p map a b e) count ≤ cond (eqb (idx map (row_of p e)) a) 1 0
  unfolding joins_by
  one_more e count a = go (eqb (idx map (row_of p e)) a)
    where
      go : (t : Bool) → how_many (λ b. t && eqb (idx map (column_of p e)) b) count ≤ cond t 1 0
      go true = many_one (idx map (column_of p e)) count
      go false = omega (arith, many_none (λ b. false) count (λ k l. refl))

  up_to : (e count : ℕ) → sum_to (λ a. how_many (λ b. some (joins_by p map a b) e) count) count ≤ e
  unfolding some
  up_to zero count = omega (
    arith,
    sum_none (λ a. how_many (λ b. false) count) count
        (λ a. many_none (λ b. false) count (λ k l. refl)),
  )
  up_to (suc e) count =
      let x = eqb (idx map (row_of p e)) in
      let z = sum_extra (λ a. how_many (λ b. some (joins_by p map a b) (suc e)) count)
      (λ a. how_many (λ b. some (joins_by p map a b) e) count) x count
      (λ a.
      let y = many_extra (λ b. some (joins_by p map a b) (suc e)) (λ b. some (joins_by p map a b) e)
      (λ b. joins_by p map a b e) count (λ b. refl) in
      omega (arith, one_more e count a)) in
      omega (arith, up_to e count, many_one (idx map (row_of p e)) count)

  -- There are no more joined pairs than entries.
  pub joins_few : (count : ℕ) → start_of count (joins p map) count ≤ entries p
  unfolding start_of joins joins_by
  joins_few count = up_to (entries p) count
