-- The running sums of `row_sums_into` are whole numbers, and exact. Assumes nothing.
use mathlib.Core.Path.{◌≡◌, refl, sym, ap, ap₂, ◌∙◌, subst}
use mathlib.Core.Bool.{Bool, true, false}
use mathlib.Core.List.{List}
use mathlib.Core.Logic.{⊎_elim}
use Prim.Native.Nat.{ℕ, zero, suc, ◌+◌, ◌*◌, ◌^◌, ◌≤◌, ◌<◌}
use native.Mathlib.Omega.{arith}
use native.Mathlib.Nat.{suc-mul, mul-le-mul_right}
use native.Mathlib.Numerals.{add-one}
use lib.Dec.{eqb}
use lib.IntN.{ℤ, pos, nat_abs, ◌+ℤ◌, +ℤ_idl, +ℤ_idr, +ℤ_assoc}
use lib.ListN.{length, set, length-set}
use lib.Seq.{get_or-set_same, get_or-set_other}
use lib.Ieee.{Float, nan, binary64, of_int}
use borrow.Author.Tests.{eq-eqb, ne_eqb, ltb-true}
use Rattle.float.specs.Float.{add64}
use Rattle.store.specs.Loop.{for}
use Rattle.store.specs.Region.{at, idx}
use Rattle.store.specs.Vector.{tab}
use Rattle.store.proofs.store.Loop.{for_count}
use Rattle.store.proofs.store.Vector.{length_tab, get_d_tab}
use Rattle.store.proofs.store.Region.{le_or_lt}
use Rattle.matrix.specs.Kernel.{Kernel, sum_face, sum_row, row_sums_of}
use Rattle.galerkin.specs.Whole.{Whole}
use Rattle.galerkin.specs.Product.{Σℤ, when}
use Rattle.galerkin.proofs.exact.Whole.{add_whole, nat_abs_add}
use Rattle.pattern.specs.Pattern.{how_many, Pattern, entries, column_of, row_of, Valid, Rising, Mirrored, Diagonal}
use Rattle.pattern.proofs.pattern.Number.{same?, many_mono, many_lt}
use Rattle.pattern.proofs.pattern.Row.{row_is}
use Rattle.galerkin_theorem.specs.Theorem.{WholeValues}
use Rattle.faces.specs.Faces.{above, faces_of, uppers_of, face_offsets_of, neighbors_of, diagonals_of}
use Rattle.faces.proofs.faces.Pick.{those_which}
use Rattle.faces.proofs.faces.Entries.{offset_few}
use Rattle.faces.proofs.faces.Laws.{diagonal_entry, faces_few, starts_rise, starts_last}
use Rattle.load_theorem.specs.Sums.{kernel_for}
use Rattle.load_theorem.proofs.Faces.{added, by_faces}

module _ {p : Pattern} {values : List Float} {z : ℕ → ℤ} (valid : Valid p) (rising : Rising p) (mirrored : Mirrored p) (diagonal : Diagonal p)
    (fine : WholeValues p values z) (exactly : (e : ℕ) → e < entries p → at values e ≡ of_int binary64 (z e))
    (bound : ℕ) (small : (e : ℕ) → e < entries p → nat_abs (z e) ≤ bound) (few : bound + entries p * (bound + bound) ≤ 2 ^ 53) where
  abbrev adds : ℕ → ℕ → ℤ
  adds = added valid rising mirrored diagonal z fine.symmetric

  -- the sum of row r after k faces
  abbrev sum_after : ℕ → ℕ → ℤ
  sum_after k r = z (idx (diagonals_of p) r) +ℤ Σℤ k (adds r)

  when_small : (b : Bool) (x : ℤ) → nat_abs (when b x) ≤ nat_abs x
  when_small true x = omega arith
  when_small false x = omega arith

  -- Face k is an entry above the diagonal, of the row whose faces k is among.
  face : (k : ℕ) → k < faces_of p
      → (idx (uppers_of p) k < entries p) × (row_of p (idx (uppers_of p) k) < column_of p (idx (uppers_of p) k)) × (how_many (above p) (idx (uppers_of p) k) ≡ k) × (above p (idx (uppers_of p) k) ≡ true)
  unfolding faces_of uppers_of above
  face k h =
      let v = those_which (above p) (entries p) k h in
      rw v.4 (v.1, ltb-true (row_of p v.0) (column_of p v.0) v.2, v.3, v.2)

  -- It stands in that row.
  face_row : (r k : ℕ) → r < p.rows → idx (face_offsets_of p) r ≤ k → k < idx (face_offsets_of p) (r + 1) → k < faces_of p → row_of p (idx (uppers_of p) k) ≡ r
  unfolding face_offsets_of
  face_row r k h lo hi l =
      let v = face k l in
      let q = idx (uppers_of p) k in
      let a : idx (face_offsets_of p) r ≡ how_many (above p) (idx p.offsets r) = get_d_tab (λ i. how_many (above p) (idx p.offsets i)) (p.rows + 1) r 0 (omega arith) in
      let b : idx (face_offsets_of p) (r + 1) ≡ how_many (above p) (idx p.offsets (r + 1)) =
      get_d_tab (λ i. how_many (above p) (idx p.offsets i)) (p.rows + 1) (r + 1) 0 (omega arith) in
      let m = v.2 in
      row_is valid r q h
      (⊎_elim (λ (w : idx p.offsets r ≤ q). w)
      (λ (w : q < idx p.offsets r). absurd (omega (arith, many_lt (above p) q (idx p.offsets r) w v.3)))
      (le_or_lt (idx p.offsets r) q))
      (⊎_elim (λ (w : idx p.offsets (r + 1) ≤ q). absurd (omega (arith, many_mono (above p) (idx p.offsets (r + 1)) q w)))
      (λ (w : q < idx p.offsets (r + 1)). w)
      (le_or_lt (idx p.offsets (r + 1)) q))

  -- Running sums are small.
  sums_small : (k r : ℕ) → k ≤ faces_of p → nat_abs (Σℤ k (adds r)) ≤ k * (bound + bound)
  unfolding Σℤ
  sums_small zero r h = omega arith
  sums_small (suc k) r h =
      let v = face k h in
      let q = idx (uppers_of p) k in
      let s = small q v.0 in
      let x = when (eqb (row_of p q) r) (z q) in
      let y = when (eqb (column_of p q) r) (z q) in
      omega (
        arith,
        sums_small k r (omega arith),
        nat_abs_add (Σℤ k (adds r)) (x +ℤ y),
        nat_abs_add x y,
        when_small (eqb (row_of p q) r) (z q),
        when_small (eqb (column_of p q) r) (z q),
        suc-mul k (bound + bound),
      )

  after_small : (k r : ℕ) → k ≤ faces_of p → r < p.rows → nat_abs (sum_after k r) ≤ 2 ^ 53
  after_small k r h l =
      let d = diagonal_entry valid rising diagonal r l in
      let le : k * (bound + bound) ≤ entries p * (bound + bound) = mul-le-mul_right (bound + bound) (omega (arith, faces_few p)) in
      omega (arith, nat_abs_add (z (idx (diagonals_of p) r)) (Σℤ k (adds r)), small (idx (diagonals_of p) r) d.0, sums_small k r h)

  -- After k faces the vector holds these sums.
  pub record Holds (k : ℕ) (v : List Float) : Type 0 where
    pub size : length v ≡ p.rows
    pub sums : (r : ℕ) → r < p.rows → at v r ≡ of_int binary64 (sum_after k r)

  abbrev k : List Float → Kernel
  k inverse = kernel_for p values inverse

  module _ (inverse : List Float) where
    -- At the start it holds the diagonal.
    holds_start : Holds 0 (k inverse).diagonal
    unfolding Σℤ
    holds_start = record {
      size = length_tab (λ r. at values (idx (diagonals_of p) r)) p.rows;
      sums = λ r l.
          get_d_tab (λ r. at values (idx (diagonals_of p) r)) p.rows r nan l ∙ exactly (idx (diagonals_of p) r) (diagonal_entry valid rising diagonal r l).0
          ∙ ap (of_int binary64) (sym (+ℤ_idr (z (idx (diagonals_of p) r))));
    }

    -- One face more.
    holds_on : (row e : ℕ) → e < faces_of p → row < p.rows → row_of p (idx (uppers_of p) e) ≡ row → (v : List Float) → Holds e v → Holds (suc e) (sum_face (k inverse) row e v)
    unfolding sum_face Σℤ neighbors_of
    holds_on row e l h is v holds =
        let q = idx (uppers_of p) e in
        let f = face e l in
        let j = idx (neighbors_of p) e in
        let a = at (tab (λ i. at values (idx (uppers_of p) i)) (faces_of p)) e in
        let ej : j ≡ column_of p q = get_d_tab (λ i. column_of p (idx (uppers_of p) i)) (faces_of p) e 0 l in
        let ea : a ≡ at values q = get_d_tab (λ i. at values (idx (uppers_of p) i)) (faces_of p) e nan l in
        let up : row < j = rw (ej, ← is) f.1 in
        let inside : j < p.rows = rw ej (valid.inside q f.0) in
        let whole : Whole a (z q) = subst (λ (x : Float). Whole x (z q)) (sym ea) (fine.whole q f.0) in
        let u = set v row (add64 (at v row) a) in
        let lu : length u ≡ length v = length-set v row (add64 (at v row) a) in
        let lv = holds.size in
        record {
          size = length-set u j (add64 (at u j) a) ∙ lu ∙ lv;
          sums = λ r b.
              let x = when (eqb (row_of p q) r) (z q) in
              let y = when (eqb (column_of p q) r) (z q) in
              let zd = z (idx (diagonals_of p) r) in
              let next : sum_after (suc e) r ≡ sum_after e r +ℤ (x +ℤ y) = sym (+ℤ_assoc zd (Σℤ e (adds r)) (x +ℤ y)) in
              (⊎_elim
              (λ (w : (j ≡ r) × (eqb j r ≡ true)).
              let er : x ≡ pos 0 = rw (ne_eqb (row_of p q) r (λ s. omega arith)) refl in
              let ec : y ≡ z q = rw (eq-eqb (column_of p q) r (sym ej ∙ w.0)) refl in
              let here : at (set u j (add64 (at u j) a)) r ≡ add64 (at u j) a =
              ap (at (set u j (add64 (at u j) a))) (sym w.0) ∙ get_or-set_same u j (add64 (at u j) a) nan (omega arith) in
              let old : at u j ≡ of_int binary64 (sum_after e j) = get_or-set_other v row j (add64 (at v row) a) nan (λ s. omega arith) ∙ holds.sums j inside in
              here ∙ ap (λ (t : Float). add64 t a) old ∙ add_whole binary64 (sum_after e j) a (z q) (after_small e j (omega arith) inside) whole
              ∙ ap (λ (s : ℕ). of_int binary64 (sum_after e s +ℤ z q)) w.0
              ∙ ap (λ (t : ℤ). of_int binary64 (sum_after e r +ℤ t)) (sym (+ℤ_idl (z q)) ∙ sym (ap₂ ◌+ℤ◌ er ec)))
              (λ (w : (j ≡ r → ⊥) × (eqb j r ≡ false)).
              let ec : y ≡ pos 0 = rw (ne_eqb (column_of p q) r (λ s. w.0 (ej ∙ s))) refl in
              let there : at (set u j (add64 (at u j) a)) r ≡ at u r = get_or-set_other u j r (add64 (at u j) a) nan (λ s. w.0 (sym s)) in
              there ∙ ⊎_elim
              (λ (t : (row ≡ r) × (eqb row r ≡ true)).
              let er : x ≡ z q = rw (eq-eqb (row_of p q) r (is ∙ t.0)) refl in
              ap (at u) (sym t.0) ∙ get_or-set_same v row (add64 (at v row) a) nan (omega arith)
              ∙ ap (λ (s : Float). add64 s a) (holds.sums row h) ∙ add_whole binary64 (sum_after e row) a (z q) (after_small e row (omega arith) h) whole
              ∙ ap (λ (s : ℕ). of_int binary64 (sum_after e s +ℤ z q)) t.0
              ∙ ap (λ (s : ℤ). of_int binary64 (sum_after e r +ℤ s)) (sym (+ℤ_idr (z q)) ∙ sym (ap₂ ◌+ℤ◌ er ec)))
              (λ (t : (row ≡ r → ⊥) × (eqb row r ≡ false)).
              let er : x ≡ pos 0 = rw (ne_eqb (row_of p q) r (λ s. t.0 (sym is ∙ s))) refl in
              get_or-set_other v row r (add64 (at v row) a) nan (λ s. t.0 (sym s)) ∙ holds.sums r b
              ∙ ap (of_int binary64) (sym (+ℤ_idr (sum_after e r)) ∙ ap (λ (s : ℤ). sum_after e r +ℤ s) (sym (ap₂ ◌+ℤ◌ er ec))))
              (same? row r))
              (same? j r) ∙ ap (of_int binary64) (sym next));
        }

    -- No row's faces end after the last.
    last : (i : ℕ) → i ≤ p.rows → idx (face_offsets_of p) i ≤ faces_of p
    unfolding face_offsets_of faces_of
    last i b = rw (get_d_tab (λ j. how_many (above p) (idx p.offsets j)) (p.rows + 1) i 0 (omega arith))
        (many_mono (above p) (idx p.offsets i) (entries p) (offset_few valid i b))

    -- One row more.
    holds_row : (r : ℕ) → r < p.rows → (v : List Float) → Holds (idx (face_offsets_of p) r) v → Holds (idx (face_offsets_of p) (r + 1)) (sum_row (k inverse) r v)
    unfolding sum_row
    holds_row r h v holds =
        for_count Holds (sum_face (k inverse) r) (idx (face_offsets_of p) r) (idx (face_offsets_of p) (r + 1)) (starts_rise valid r h)
        (λ e lo hi s before.
        let l : e < faces_of p = omega (arith, last (r + 1) (omega arith)) in
        holds_on r e l h (face_row r e h lo hi l) s before)
        v holds

    -- The first row's faces come first.
    first : idx (face_offsets_of p) 0 ≡ 0
    unfolding face_offsets_of how_many
    first = get_d_tab (λ j. how_many (above p) (idx p.offsets j)) (p.rows + 1) 0 0 (omega arith) ∙ ap (how_many (above p)) valid.first

    -- The row sums, row by row.
    by_rows : row_sums_of (k inverse) ≡ for (sum_row (k inverse)) 0 p.rows (k inverse).diagonal
    unfolding row_sums_of sum_row
    by_rows = refl

    -- All rows.
    pub holds_all : Holds (faces_of p) (row_sums_of (k inverse))
    holds_all =
        subst (λ (v : List Float). Holds (faces_of p) v) (sym by_rows)
        (rw (starts_last valid) at
        (for_count (λ i v. Holds (idx (face_offsets_of p) i) v) (sum_row (k inverse)) 0 p.rows (omega arith)
        (λ r lo hi v before. rw (add-one r) at (holds_row r hi v before))
        (k inverse).diagonal (rw first holds_start)))

    -- The row sums are those of the whole numbers.
    pub row_sums_exact : (r : ℕ) → r < p.rows → at (row_sums_of (k inverse)) r ≡ of_int binary64 (Σℤ (entries p) (λ e. when (eqb (row_of p e) r) (z e)))
    row_sums_exact r h = holds_all.sums r h ∙ ap (of_int binary64) (by_faces valid rising mirrored diagonal z fine.symmetric r h)

    pub row_sums_length : length (row_sums_of (k inverse)) ≡ p.rows
    row_sums_length = holds_all.size
