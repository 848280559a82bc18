-- The kernel of a level stands for the matrix whose values it was made of, if mirrors are equal: each entry is that of the matrix.
-- Assumes nothing.
use mathlib.Core.Path.{◌≡◌, refl, sym, ap, ◌∙◌, subst}
use mathlib.Core.Bool.{Bool, true, false, cond}
use mathlib.Core.List.{List}
use mathlib.Core.Logic.{⊎_elim}
use Prim.Native.Nat.{ℕ, ◌+◌, ◌≤◌, ◌<◌}
use native.Mathlib.Omega.{arith}
use lib.Dec.{eqb}
use lib.IntN.{ℤ, pos}
use lib.ListN.{length}
use lib.Ieee.{Float, nan}
use borrow.Author.Tests.{eqb-true, eq-eqb, lt-ltb, le-ltb}
use Rattle.float.specs.Float.{zero64}
use Rattle.store.specs.Loop.{for}
use Rattle.store.specs.Region.{at, idx}
use Rattle.store.specs.Vector.{tab}
use Rattle.store.proofs.store.Loop.{for_keeps, for_count}
use Rattle.store.proofs.store.Region.{le_or_lt}
use Rattle.store.proofs.store.Vector.{get_d_tab}
use Rattle.matrix.specs.Kernel.{Kernel}
use Rattle.coefficients.specs.Update.{entry_of}
use Rattle.galerkin.specs.Whole.{Whole}
use Rattle.galerkin.proofs.exact.Whole.{zero_is, of_int_whole}
use Rattle.pattern.specs.Pattern.{how_many, Pattern, entries, row_of, column_of}
use Rattle.pattern.proofs.pattern.Number.{bool?, not_both, many_mono, many_lt}
use Rattle.pattern.proofs.pattern.Place.{those_at}
use Rattle.pattern.proofs.pattern.Row.{row_is, row_in}
use Rattle.faces.specs.Faces.{above, faces_of, uppers_of, face_offsets_of, neighbors_of, has_entry, diagonals_of}
use Rattle.faces.proofs.faces.Pick.{those_which}
use Rattle.faces.proofs.faces.Entries.{has_at, has_which, offset_few}
use Rattle.faces.proofs.faces.Laws.{diagonal_entry}
use Rattle.galerkin_theorem.specs.Theorem.{WholeValues, fine_matrix}
use Rattle.galerkin_theorem.proofs.Mirror.{entry_once, fine_symmetric}
use Rattle.hierarchy.specs.Level.{Shape, Level, kernel_in}
use Rattle.hierarchy.specs.Build.{shape_of}
use Rattle.hierarchy.specs.Proper.{Proper}
use Rattle.hierarchy.proofs.First.{length_uppers}
use Rattle.galerkin_levels.specs.Levels.{above_at, entry_at, MatrixIs}
use Rattle.galerkin_levels.proofs.Dense.{dense_at, dense_none}

-- ---- a search among indices

module _ {A : Type 0} (test : ℕ → Bool) (value : ℕ → A) (lo hi : ℕ) (v : A) where
  -- The value of the only index that passes is found.
  found : (k : ℕ) → lo ≤ k → k < hi → test k ≡ true → ((e : ℕ) → lo ≤ e → e < hi → test e ≡ true → e ≡ k)
      → for (λ e u. cond (test e) (value e) u) lo hi v ≡ value k
  found k low high t only =
      for_count (λ (n : ℕ) (u : A). k < n → u ≡ value k) (λ e u. cond (test e) (value e) u) lo hi (omega arith)
      (λ n l h u on less. ⊎_elim
      (λ (y : test n ≡ true). rw y (ap value (only n l h y)))
      (λ (y : test n ≡ false). ⊎_elim
      (λ (w : n ≤ k). let same : n ≡ k = omega arith in absurd (not_both (ap test same ∙ t) y))
      (λ (w : k < n). rw y (on w))
      (le_or_lt n k))
      (bool? (test n)))
      v (λ less. absurd (omega arith)) high

  -- Where none passes nothing is.
  missed : ((e : ℕ) → lo ≤ e → e < hi → test e ≡ false) → for (λ e u. cond (test e) (value e) u) lo hi v ≡ v
  missed none = for_keeps (λ (u : A). u ≡ v) (λ e u. cond (test e) (value e) u) lo hi (λ e l h u same. rw (none e l h) same) v refl

-- ---- the faces of a row

module _ {p : Pattern} (f : Proper p) where
  -- Where the faces of row i start.
  start_is : (i : ℕ) → i ≤ p.rows → idx (face_offsets_of p) i ≡ how_many (above p) (idx p.offsets i)
  unfolding face_offsets_of
  start_is i h = get_d_tab (λ j. how_many (above p) (idx p.offsets j)) (p.rows + 1) i 0 (omega arith)

  -- A face is an entry above the diagonal, with so many before it.
  face_is : (k : ℕ) → k < faces_of p
      → (idx (uppers_of p) k < entries p) × (above p (idx (uppers_of p) k) ≡ true) × (how_many (above p) (idx (uppers_of p) k) ≡ k)
  unfolding faces_of uppers_of
  face_is k h = let v = those_which (above p) (entries p) k h in rw v.4 (v.1, v.2, v.3)

  -- The faces of row i are among all faces.
  face_few : (i k : ℕ) → i < p.rows → k < idx (face_offsets_of p) (i + 1) → k < faces_of p
  unfolding faces_of
  face_few i k h high =
      let less = many_mono (above p) (idx p.offsets (i + 1)) (entries p) (offset_few f.valid (i + 1) (omega arith)) in
      let is = start_is (i + 1) (omega arith) in
      omega arith

  -- They are entries of row i,
  face_row : (i k : ℕ) → i < p.rows → idx (face_offsets_of p) i ≤ k → k < idx (face_offsets_of p) (i + 1) → row_of p (idx (uppers_of p) k) ≡ i
  face_row i k h low high =
      let e = idx (uppers_of p) k in
      let face = face_is k (face_few i k h high) in
      let number : how_many (above p) e ≡ k = face.2 in
      let first = start_is i (omega arith) in
      let next = start_is (i + 1) (omega arith) in
      row_is f.valid i e h
      (⊎_elim (λ (w : idx p.offsets i ≤ e). w)
      (λ (w : e < idx p.offsets i). let less = many_lt (above p) e (idx p.offsets i) w face.1 in absurd (omega arith))
      (le_or_lt (idx p.offsets i) e))
      (⊎_elim (λ (w : idx p.offsets (i + 1) ≤ e). let less = many_mono (above p) (idx p.offsets (i + 1)) e w in absurd (omega arith))
      (λ (w : e < idx p.offsets (i + 1)). w)
      (le_or_lt (idx p.offsets (i + 1)) e))

  -- and lead to the columns of those.
  face_column : (k : ℕ) → k < faces_of p → idx (neighbors_of p) k ≡ column_of p (idx (uppers_of p) k)
  unfolding neighbors_of
  face_column k h = get_d_tab (λ j. column_of p (idx (uppers_of p) j)) (faces_of p) k 0 h

  -- The face of an entry above the diagonal is among those of the entry's row.
  face_at_lem : (e i : ℕ) → e < entries p → row_of p e ≡ i → above p e ≡ true → let k = how_many (above p) e in
      (idx (face_offsets_of p) i ≤ k) × (k < idx (face_offsets_of p) (i + 1)) × (idx (uppers_of p) k ≡ e)
  unfolding uppers_of
  face_at_lem e i h row t =
      let r = rw row at (row_in f.valid e h) in
      let less : i < p.rows = r.0 in (
        rw (start_is i (omega arith)) (many_mono (above p) (idx p.offsets i) e r.1),
        rw (start_is (i + 1) (omega arith)) (many_lt (above p) e (idx p.offsets (i + 1)) r.2 t),
        those_at (above p) (entries p) e h t,
      )

  -- ---- the kernel

  module _ {values : List Float} {z : ℕ → ℤ} (fine : WholeValues p values z) (k : Kernel) (offsets : k.offsets ≡ face_offsets_of p)
      (neighbors : k.neighbors ≡ neighbors_of p) (diagonal : k.diagonal ≡ tab (entry_of (diagonals_of p) values) p.rows)
      (coefficients : k.coefficients ≡ tab (entry_of (uppers_of p) values) (length (uppers_of p))) where
    -- the test of the search among the faces of row i for column j
    abbrev leads : ℕ → ℕ → Bool
    leads j e = eqb (idx (neighbors_of p) e) j

    -- Above the diagonal the value of an entry is found,
    above_found : (i j e : ℕ) → e < entries p → row_of p e ≡ i → column_of p e ≡ j → i < j → above_at k i j ≡ at values e
    unfolding above_at above faces_of
    above_found i j e h row column less =
        let t : above p e ≡ true = lt-ltb (row_of p e) (column_of p e) (rw (row, column) less) in
        let n = how_many (above p) e in
        let face = face_at_lem e i h row t in
        let here : i < p.rows = rw row at (row_in f.valid e h).0 in
        let few : n < faces_of p = face_few i n here face.1 in
        let is : idx (uppers_of p) n ≡ e = face.2 in
        rw (offsets, neighbors, coefficients)
        (found (leads j) (λ d. at (tab (entry_of (uppers_of p) values) (length (uppers_of p))) d) (idx (face_offsets_of p) i) (idx (face_offsets_of p) (i + 1)) zero64
        n face.0 face.1 (eq-eqb (idx (neighbors_of p) n) j (face_column n few ∙ ap (λ (d : ℕ). column_of p d) is ∙ column))
        (λ d low high y.
        let fewer = face_few i d here high in
        let own = face_is d fewer in
        let same : idx (uppers_of p) d ≡ e = entry_once p f.valid f.rising (idx (uppers_of p) d) e own.0 h (face_row i d here low high ∙ sym row)
        (sym (face_column d fewer) ∙ eqb-true (idx (neighbors_of p) d) j y ∙ sym column) in
        sym own.2 ∙ ap (how_many (above p)) same)
        ∙ get_d_tab (entry_of (uppers_of p) values) (length (uppers_of p)) n nan (rw (length_uppers p) few) ∙ ap (at values) is)

    -- and zero where there is none.
    above_missed : (i j : ℕ) → i < p.rows → ((e : ℕ) → e < entries p → row_of p e ≡ i → column_of p e ≡ j → ⊥) → above_at k i j ≡ zero64
    unfolding above_at
    above_missed i j here none =
        rw (offsets, neighbors, coefficients)
        (missed (leads j) (λ d. at (tab (entry_of (uppers_of p) values) (length (uppers_of p))) d) (idx (face_offsets_of p) i) (idx (face_offsets_of p) (i + 1)) zero64
        (λ d low high. ⊎_elim
        (λ (y : leads j d ≡ true).
        let few = face_few i d here high in
        absurd (none (idx (uppers_of p) d) (face_is d few).0 (face_row i d here low high)
        (sym (face_column d few) ∙ eqb-true (idx (neighbors_of p) d) j y)))
        (λ (y : leads j d ≡ false). y)
        (bool? (leads j d))))

    zero_whole : Whole zero64 (pos 0)
    zero_whole = subst (λ (x : Float). Whole x (pos 0)) (sym zero_is) (of_int_whole (pos 0) (omega arith))

    -- So the values above the diagonal are those of the matrix,
    above_is : (i j : ℕ) → i < p.rows → i < j → Whole (above_at k i j) (fine_matrix p z i j)
    above_is i j here less = ⊎_elim
        (λ (t : has_entry p i j ≡ true).
        let w = has_which p i j t in
        rw (above_found i j w.0 w.1 w.2 w.3 less, dense_at p z f.valid f.rising w.0 i j w.1 w.2 w.3)
        (fine.whole w.0 w.1))
        (λ (t : has_entry p i j ≡ false).
        let none : (e : ℕ) → e < entries p → row_of p e ≡ i → column_of p e ≡ j → ⊥ = λ e h r c. not_both (has_at p i j e h r c) t in
        rw (above_missed i j here none, dense_none p z i j none) zero_whole)
        (bool? (has_entry p i j))

    -- and those of the diagonal.
    diagonal_is : (i : ℕ) → i < p.rows → Whole (at k.diagonal i) (fine_matrix p z i i)
    diagonal_is i here =
        let w = diagonal_entry f.valid f.rising f.diagonal i here in
        let e = idx (diagonals_of p) i in
        rw (diagonal, get_d_tab (entry_of (diagonals_of p) values) p.rows i nan here, dense_at p z f.valid f.rising e i i w.0 w.1 w.2)
        (fine.whole e w.0)

    -- The kernel stands for the matrix of its values.
    pub kernel_is : (i j : ℕ) → i < p.rows → j < p.rows → Whole (entry_at k i j) (fine_matrix p z i j)
    unfolding entry_at
    kernel_is i j here there = ⊎_elim
        (λ (w : j ≤ i). rw (le-ltb i j w) (⊎_elim
        (λ (v : i ≤ j). let same : i ≡ j = omega arith in rw (le-ltb j i v) (subst (λ (n : ℕ). Whole (at k.diagonal i) (fine_matrix p z i n)) same (diagonal_is i here)))
        (λ (v : j < i). rw (lt-ltb j i v, fine_symmetric p f.valid f.rising f.mirrored fine i j) (above_is j i there v))
        (le_or_lt i j)))
        (λ (w : i < j). rw (lt-ltb i j w) (above_is i j here w))
        (le_or_lt j i)

-- A level whose shape and numbers are made of a pattern and values has exactly their matrix.
pub level_is : {p : Pattern} {values : List Float} {z : ℕ → ℤ} → Proper p → WholeValues p values z → (l : Level) {terminal : Bool} {links positions : List ℕ}
    → l.shape ≡ shape_of p terminal links positions → l.numbers.diagonal ≡ tab (entry_of (diagonals_of p) values) p.rows
    → l.numbers.coefficients ≡ tab (entry_of (uppers_of p) values) (length (uppers_of p)) → MatrixIs l (fine_matrix p z)
level_is f fine l shape diagonal coefficients =
    let rows = ap (λ (s : Shape). s.pattern.rows) shape in
    record {
      entry = λ i j h g. kernel_is f fine (kernel_in l) (ap (λ (s : Shape). s.starts) shape) (ap (λ (s : Shape). s.neighbors) shape) diagonal coefficients i j
          (rw rows at h) (rw rows at g);
    }
