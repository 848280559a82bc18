-- What a caller needs of the faces, the diagonal entries and the coupled rows of a pattern.
-- Assumes nothing.
use Rattle.std.specs.Prelude.{Ok}
use mathlib.Core.Path.{◌≡◌, refl, sym, ap, ◌∙◌}
use mathlib.Core.Bool.{Bool, true, false}
use mathlib.Core.Logic.{⊎_elim}
use Prim.Native.Nat.{ℕ, zero, suc, ◌+◌, ◌-◌, ◌≤◌, ◌<◌}
use native.Mathlib.Omega.{arith}
use lib.Dec.{ltb}
use borrow.Author.Tests.{ltb-true, lt-ltb, le-ltb}
use Rattle.refusal.specs.Outcome.{passed, ask_rows, verdict_of}
use Rattle.refusal.proofs.Outcome.{verdict_passed, passes}
use Rattle.store.specs.Region.{idx}
use Rattle.store.proofs.store.Each.{each_at, each_all}
use Rattle.store.proofs.store.Region.{le_or_lt}
use Rattle.store.proofs.store.Vector.{get_d_tab}
use Rattle.pattern.specs.Pattern.{how_many, Pattern, entries, column_of, row_of, Valid, Rising, Mirrored, Diagonal}
use Rattle.pattern.proofs.pattern.Number.{bool?, many_mono, many_lt}
use Rattle.pattern.proofs.pattern.Place.{those_at}
use Rattle.galerkin_theorem.specs.Theorem.{FacesOf}
use Rattle.galerkin_theorem.proofs.Mirror.{entry_once}
use Rattle.faces.specs.Faces.{above, faces_of, uppers_of, face_offsets_of, neighbors_of, has_entry, stands_at, mirror_of, mirrored_of, lowers_of, diagonals_asked, diagonals_of, coupled_of, coupled_count_of, coupled_rows_of}
use Rattle.faces.proofs.faces.Pick.{many_few, many_apart, many_into, those_which}
use Rattle.faces.proofs.faces.Entries.{has_at, has_which, stands_there}
use Rattle.faces.proofs.faces.Asking.{asks}

-- ---- question 10

-- Where each entry is found to have its mirror, the pattern is mirrored.
pub mirrored_is : {p : Pattern} → Valid p → Rising p → mirrored_of p ≡ true → Mirrored p
unfolding mirrored_of
mirrored_is {p} valid rising t = record {
  mirror = λ e h. has_which p (column_of p e) (row_of p e) (each_at (λ d. has_entry p (column_of p d) (row_of p d)) (entries p) t e h);
}

-- In a mirrored pattern each entry is found to have its mirror.
pub mirrored_was : {p : Pattern} → Valid p → Mirrored p → mirrored_of p ≡ true
unfolding mirrored_of
mirrored_was {p} valid mirrored = each_all (λ d. has_entry p (column_of p d) (row_of p d)) (entries p)
    (λ e h. let d = mirrored.mirror e h in has_at p (column_of p e) (row_of p e) d.0 d.1 d.2 d.3)

-- ---- question 11

module _ (level : ℕ) (p : Pattern) where
  asked_was : (fuel row : ℕ) → ((i : ℕ) → i < row + fuel → has_entry p i i ≡ true) → ask_rows fuel row (asks level p) passed ≡ passed
  unfolding ask_rows
  asked_was zero row all = refl
  asked_was (suc fuel) row all = rw (all row (omega arith)) (asked_was fuel (row + 1) (λ i h. all i (omega arith)))

  asked_is : (fuel row : ℕ) → ask_rows fuel row (asks level p) passed ≡ passed → (i : ℕ) → row ≤ i → i < row + fuel → has_entry p i i ≡
      true
  unfolding ask_rows
  asked_is zero row e i l h = absurd (omega arith)
  asked_is (suc fuel) row e i l h = ⊎_elim
      (λ (t : has_entry p row row ≡ true). ⊎_elim
      (λ (w : i ≤ row). let same : i ≡ row = omega arith in rw same t)
      (λ (w : row < i). asked_is fuel (row + 1) (rw t at e) i (omega arith) (omega arith))
      (le_or_lt i row))
      (λ (f : has_entry p row row ≡ false). let no = rw f at e in let z : ◌≡◌ {A = ℕ} 0 1 = cc in absurd (omega arith))
      (bool? (has_entry p row row))

-- Where question 11 passes, each row has its diagonal entry.
pub diagonal_is : {p : Pattern} (level : ℕ) → Valid p → verdict_of (diagonals_asked level p) ≡ Ok tt → Diagonal p
unfolding diagonals_asked
diagonal_is {p} level valid t = record {
  diagonal = λ i h. has_which p i i (asked_is level p (p.rows - 0) 0 (passes (diagonals_asked level p) refl t) i (omega arith)
      (omega arith));
}

-- Where each row has its diagonal entry, it passes.
pub diagonal_was : {p : Pattern} (level : ℕ) → Diagonal p → verdict_of (diagonals_asked level p) ≡ Ok tt
unfolding diagonals_asked
diagonal_was {p} level diagonal = verdict_passed (diagonals_asked level p) (asked_was level p (p.rows - 0) 0
    (λ i h. let d = diagonal.diagonal i (omega arith) in has_at p i i d.0 d.1 d.2 d.3))

-- The diagonal entry of a row is an entry, of that row and column.
pub diagonal_entry : {p : Pattern} → Valid p → Rising p → Diagonal p → (i : ℕ) → i < p.rows
    → (idx (diagonals_of p) i < entries p) × (row_of p (idx (diagonals_of p) i) ≡ i) × (column_of p (idx (diagonals_of p) i) ≡ i)
unfolding diagonals_of
diagonal_entry {p} valid rising diagonal i h =
    let d = diagonal.diagonal i h in
    rw (get_d_tab (λ j. stands_at p j j) p.rows i 0 h) (stands_there valid rising i i (has_at p i i d.0 d.1 d.2 d.3))

-- ---- faces

-- There are no more faces than entries.
pub faces_few : (p : Pattern) → faces_of p ≤ entries p
unfolding faces_of
faces_few p = many_few (above p) (entries p)

-- Face k is an entry above the diagonal, with k before it.
face_which : (p : Pattern) (k : ℕ) → k < faces_of p
    → (idx (uppers_of p) k < entries p) × (above p (idx (uppers_of p) k) ≡ true) × (how_many (above p) (idx (uppers_of p) k) ≡ k)
unfolding faces_of uppers_of
face_which p k h = let v = those_which (above p) (entries p) k h in rw v.4 (v.1, v.2, v.3)

-- A face is an entry.
pub upper_entry : (p : Pattern) (k : ℕ) → k < faces_of p → idx (uppers_of p) k < entries p
upper_entry p k h = (face_which p k h).0

-- A face's neighbour is one of the rows.
pub near : {p : Pattern} → Valid p → (k : ℕ) → k < faces_of p → idx (neighbors_of p) k < p.rows
unfolding neighbors_of
near {p} valid k h = rw (get_d_tab (λ j. column_of p (idx (uppers_of p) j)) (faces_of p) k 0 h)
    (valid.inside (idx (uppers_of p) k) (upper_entry p k h))

-- Face offsets never fall.
pub starts_rise : {p : Pattern} → Valid p → (i : ℕ) → i < p.rows → idx (face_offsets_of p) i ≤ idx (face_offsets_of p) (i + 1)
unfolding face_offsets_of
starts_rise {p} valid i h = rw (
  get_d_tab (λ j. how_many (above p) (idx p.offsets j)) (p.rows + 1) i 0 (omega arith),
  get_d_tab (λ j. how_many (above p) (idx p.offsets j)) (p.rows + 1) (i + 1) 0 (omega arith),
) (many_mono (above p) (idx p.offsets i) (idx p.offsets (i + 1)) (valid.rises i h))

-- The last is the number of faces.
pub starts_last : {p : Pattern} → Valid p → idx (face_offsets_of p) p.rows ≡ faces_of p
unfolding face_offsets_of faces_of
starts_last {p} valid = get_d_tab (λ j. how_many (above p) (idx p.offsets j)) (p.rows + 1) p.rows 0 (omega arith)
    ∙ ap (how_many (above p)) valid.last

-- An entry above the diagonal.
over_is : (p : Pattern) (e : ℕ) → above p e ≡ true → row_of p e < column_of p e
unfolding above
over_is p e t = ltb-true (row_of p e) (column_of p e) t

-- Each is a face.
face_at_lem : (p : Pattern) (q : ℕ) → q < entries p → row_of p q < column_of p q → (k : ℕ) × (k < faces_of p) × (idx (uppers_of p) k ≡ q)
unfolding faces_of uppers_of above
face_at_lem p q h l =
    let t : above p q ≡ true = lt-ltb (row_of p q) (column_of p q) l in
    (how_many (above p) q, many_lt (above p) q (entries p) h t, those_at (above p) (entries p) q h t)

-- ---- mirrored faces

module _ {p : Pattern} (valid : Valid p) (rising : Rising p) (mirrored : Mirrored p) where
  mirror_there : (e : ℕ) → e < entries p
      → (mirror_of p e < entries p) × (row_of p (mirror_of p e) ≡ column_of p e) × (column_of p (mirror_of p e) ≡ row_of p e)
  mirror_there e h =
      let d = mirrored.mirror e h in
      stands_there valid rising (column_of p e) (row_of p e) (has_at p (column_of p e) (row_of p e) d.0 d.1 d.2 d.3)

  lower_is : (k : ℕ) → k < faces_of p → idx (lowers_of p) k ≡ mirror_of p (idx (uppers_of p) k)
  unfolding lowers_of
  lower_is k h = get_d_tab (λ j. mirror_of p (idx (uppers_of p) j)) (faces_of p) k 0 h

  -- The mirror of a face is an entry.
  pub lower_entry : (k : ℕ) → k < faces_of p → idx (lowers_of p) k < entries p
  lower_entry k h = rw (lower_is k h) (mirror_there (idx (uppers_of p) k) (upper_entry p k h)).0

  -- Faces and their mirrors are different entries: twice the faces are no more than the entries.
  pub faces_half : faces_of p + faces_of p ≤ entries p
  unfolding faces_of
  faces_half =
      let below : ℕ → Bool = λ e. ltb (column_of p e) (row_of p e) in
      let apart = many_apart (above p) below (entries p) (λ e t. le-ltb (column_of p e) (row_of p e) (omega (arith, over_is p e t))) in
      let into = many_into (mirror_of p) (above p) below (entries p) (entries p)
      (λ e h t. let m = mirror_there e h in (m.0, rw (m.1, m.2) (lt-ltb (row_of p e) (column_of p e) (over_is p e t))))
      (λ c d l h t u same.
      let m = mirror_there c (omega arith) in
      let n = mirror_there d h in
      let is = entry_once p valid rising c d (omega arith) h
      (sym m.2 ∙ ap (λ (e : ℕ). column_of p e) same ∙ n.2) (sym m.1 ∙ ap (row_of p) same ∙ n.1) in
      omega arith) in
      omega arith

  -- They are the faces of the pattern, as the Galerkin product takes them.
  pub faces_of_lem : FacesOf p (faces_of p) (uppers_of p) (lowers_of p)
  faces_of_lem = record {
    pairs = record {
      uppers = upper_entry p;
      lowers = lower_entry;
      rows = λ k h. rw (lower_is k h) (mirror_there (idx (uppers_of p) k) (upper_entry p k h)).1;
      columns = λ k h. rw (lower_is k h) (mirror_there (idx (uppers_of p) k) (upper_entry p k h)).2;
    };
    above = λ k h. over_is p (idx (uppers_of p) k) (face_which p k h).1;
    once = λ j k l h same.
        let a = (face_which p j (omega arith)).2 in
        let b = (face_which p k h).2 in
        let c : j ≡ k = sym a ∙ ap (how_many (above p)) same ∙ b in
        omega arith;
    all = λ q h l. face_at_lem p q h l;
  }

-- ---- coupled rows

-- A coupled row is one of the rows.
pub coupled_near : (p : Pattern) (k : ℕ) → k < coupled_count_of p → idx (coupled_rows_of p) k < p.rows
unfolding coupled_count_of coupled_rows_of
coupled_near p k h = let v = those_which (coupled_of p) p.rows k h in rw v.4 v.1

-- There are no more coupled rows than rows.
pub coupled_few : (p : Pattern) → coupled_count_of p ≤ p.rows
unfolding coupled_count_of
coupled_few p = many_few (coupled_of p) p.rows
