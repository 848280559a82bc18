-- Bisection over the columns of a row, and what it tells of an entry's mirror. Assumes nothing.
use mathlib.Core.Path.{◌≡◌, sym, ◌∙◌}
use mathlib.Core.Bool.{Bool, true, false}
use mathlib.Core.List.{List}
use mathlib.Core.Logic.{⊎_elim}
use Prim.Native.Nat.{ℕ, zero, suc, ◌+◌, ◌-◌, ◌≤◌, ◌<◌}
use native.Mathlib.Omega.{arith}
use lib.Ieee.{Float, eq}
use borrow.Author.Tests.{eq-eqb, ne_eqb}
use Rattle.store.specs.Region.{idx, at}
use Rattle.store.proofs.store.Region.{le_or_lt}
use Rattle.pattern.proofs.pattern.Number.{some_at, some_none}
use Rattle.record_format.specs.Format.{Matrix}
use Rattle.matrix_writer.specs.declared.arrays.RowRange.{RowRange}
use Rattle.matrix_writer.specs.Text.{row_length}
use Rattle.matrix_writer.specs.Writing.{mirrors, mirror_in}
use Rattle.matrix_writer.specs.Turns.{mirrors_from}
use Rattle.matrix_writer.specs.Contract.{WordOf, RangeIs, Rises, LowerBound}

-- A later column of a row is larger.
rises_to : {columns : List ℕ} {first last : ℕ} → Rises columns first last → (n e : ℕ) → first ≤ e → e + suc n < last → idx columns e < idx columns (e + suc n)
rises_to s zero e lo hi = s.step e lo hi
rises_to {columns} {first} {last} s (suc n) e lo hi =
    let a : idx columns e < idx columns (e + 1) = s.step e lo (omega arith) in
    let b : idx columns (e + 1) < idx columns (e + 1 + suc n) = rises_to s n (e + 1) (omega arith) (omega arith) in
    let z : e + suc (suc n) ≡ e + 1 + suc n = omega arith in
    rw z (omega arith)

pub rises_later : {columns : List ℕ} {first last : ℕ} → Rises columns first last → (i j : ℕ) → first ≤ i → i < j → j < last → idx columns i < idx columns j
rises_later {columns} {first} {last} s i j lo h hi =
    let z : i + suc (j - i - 1) ≡ j = omega arith in
    rw z at (rises_to s (j - i - 1) i lo (omega arith))

-- The search has come to the entries from low up to high: what is before has smaller columns, and what is behind has not.
pub record Bisected (columns : List ℕ) (first last c low high : ℕ) : Type 0 where
  pub from : first ≤ low
  pub order : low ≤ high
  pub to : high ≤ last
  pub before : (e : ℕ) → first ≤ e → e < low → idx columns e < c
  pub after : (e : ℕ) → high ≤ e → e < last → c ≤ idx columns e

module _ {columns : List ℕ} {first last c : ℕ} where
  pub bisect_start : first ≤ last → Bisected columns first last c first last
  bisect_start h = record {
    from = omega arith;
    order = h;
    to = omega arith;
    before = λ e p q. absurd (omega arith);
    after = λ e p q. absurd (omega arith);
  }

  pub bisect_up : {low high m x : ℕ} → Rises columns first last → Bisected columns first last c low high → low ≤ m → m < high → WordOf columns m x → x < c
      → Bisected columns first last c (m + 1) high
  bisect_up {low} {high} {m} {x} s i p q w h =
      let f = i.from in
      let t = i.to in
      let y : idx columns m < c = omega (arith, w.is) in
      record {
        from = omega arith;
        order = omega arith;
        to = t;
        before = λ e lo hi. ⊎_elim
            (λ (g : m ≤ e). let z : e ≡ m = omega arith in rw z y)
            (λ (g : e < m). let z = rises_later s e m lo g (omega arith) in omega arith)
            (le_or_lt m e);
        after = i.after;
      }

  pub bisect_down : {low high m x : ℕ} → Rises columns first last → Bisected columns first last c low high → low ≤ m → m < high → WordOf columns m x → c ≤ x
      → Bisected columns first last c low m
  bisect_down {low} {high} {m} {x} s i p q w h =
      let f = i.from in
      let t = i.to in
      let y : c ≤ idx columns m = omega (arith, w.is) in
      record {
        from = f;
        order = p;
        to = omega arith;
        before = i.before;
        after = λ e lo hi. ⊎_elim
            (λ (g : e ≤ m). let z : e ≡ m = omega arith in rw z y)
            (λ (g : m < e). let z = rises_later s m e (omega arith) g hi in omega arith)
            (le_or_lt e m);
      }

  pub bisect_done : {low high : ℕ} → Bisected columns first last c low high → high ≤ low → LowerBound columns first last c low
  bisect_done {low} {high} i h =
      let o = i.order in
      let t = i.to in
      record { from = i.from; to = omega arith; before = i.before; after = λ e p q. i.after e (omega arith) q }

-- ---- the mirror of entry e, which stands in row r: it is looked for in row c

module _ (m : Matrix) (r e c : ℕ) {s : RowRange} {d : ℕ} (w : RangeIs m c s) (l : LowerBound m.columns s.first s.last r d) where
  -- an entry of the row in another column is not the mirror
  off : (k : ℕ) → (idx m.columns (idx m.offsets c + k) ≡ r → ⊥) → mirrors_from m r e c k ≡ false
  unfolding mirrors_from mirrors
  off k h = rw (ne_eqb (idx m.columns (idx m.offsets c + k)) r h)

  -- before d columns are smaller
  off_before : (k : ℕ) → idx m.offsets c + k < d → mirrors_from m r e c k ≡ false
  off_before k h =
      let z = l.before (idx m.offsets c + k) (omega (arith, w.first_is)) h in
      off k (λ (x : idx m.columns (idx m.offsets c + k) ≡ r). omega arith)

  -- There is no entry in the column.
  pub mirror_past : s.last ≤ d → false ≡ mirror_in m r e c
  unfolding mirror_in mirrors_from
  mirror_past h =
      sym (some_none (mirrors_from m r e c) (row_length m c) (λ k g. off_before k (omega (arith, w.first_is, w.last_is))))

  -- Behind d columns are larger.
  off_after : Rises m.columns s.first s.last → (k : ℕ) → d < idx m.offsets c + k → idx m.offsets c + k < s.last → mirrors_from m r e c k ≡ false
  off_after a k h g =
      let z = rises_later a d (idx m.offsets c + k) l.from h g in
      let y = l.after d (omega arith) (omega arith) in
      off k (λ (x : idx m.columns (idx m.offsets c + k) ≡ r). omega arith)

  -- The first entry that is not before the column stands in another.
  pub mirror_other : Rises m.columns s.first s.last → {x : ℕ} → d < s.last → WordOf m.columns d x → (x ≡ r → ⊥) → false ≡ mirror_in m r e c
  unfolding mirror_in mirrors_from
  mirror_other a {x} h v n =
      sym (some_none (mirrors_from m r e c) (row_length m c) (λ k g.
      ⊎_elim
      (λ (p : d ≤ idx m.offsets c + k).
      ⊎_elim
      (λ (q : idx m.offsets c + k ≤ d).
      let z : idx m.offsets c + k ≡ d = omega arith in
      off k (rw z (λ (y : idx m.columns d ≡ r). n (v.is ∙ y))))
      (λ (q : d < idx m.offsets c + k). off_after a k q (omega (arith, w.first_is, w.last_is)))
      (le_or_lt (idx m.offsets c + k) d))
      (λ (p : idx m.offsets c + k < d). off_before k p)
      (le_or_lt d (idx m.offsets c + k))))

  -- It stands in the column: the answer is that of the values.
  pub mirror_here : Rises m.columns s.first s.last → {x : ℕ} {u v : Float} → d < s.last → WordOf m.columns d x → x ≡ r → u ≡ at m.values d → v ≡ at m.values e
      → eq u v ≡ mirror_in m r e c
  unfolding mirror_in mirrors_from mirrors
  mirror_here a {x} {u} {v} h y n p q =
      let f = l.from in
      let place : idx m.offsets c + (d - s.first) ≡ d = omega (arith, w.first_is) in
      let same : mirrors_from m r e c (d - s.first) ≡ eq u v = rw (place, eq-eqb (idx m.columns d) r (sym y.is ∙ n), p, q) in
      decide (eq u v) same
    where
      decide : (b : Bool) → mirrors_from m r e c (d - s.first) ≡ b → b ≡ mirror_in m r e c
      decide true is = sym (some_at (mirrors_from m r e c) (row_length m c) (d - s.first) (omega (arith, l.from, w.first_is, w.last_is)) is)
      decide false is =
          sym (some_none (mirrors_from m r e c) (row_length m c) (λ k g.
          ⊎_elim
          (λ (p : d ≤ idx m.offsets c + k).
          ⊎_elim
          (λ (q : idx m.offsets c + k ≤ d).
          let z : d - s.first ≡ k = omega (arith, w.first_is) in
          rw z at is)
          (λ (q : d < idx m.offsets c + k). off_after a k q (omega (arith, w.first_is, w.last_is)))
          (le_or_lt (idx m.offsets c + k) d))
          (λ (p : idx m.offsets c + k < d). off_before k p)
          (le_or_lt d (idx m.offsets c + k))))
