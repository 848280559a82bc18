-- The Galerkin theorem: where the fine values are whole, mirrored entries are equal and the absolute values sum to at most 2^53,
-- nothing rounds, and the coarse matrix is exactly Pᵀ A P.
-- Assumes nothing.
use mathlib.Core.Path.{◌≡◌, refl, sym, ap, ◌∙◌}
use mathlib.Core.Bool.{Bool, true, false, ◌&&◌}
use mathlib.Core.List.{List}
use mathlib.Core.Logic.{⊎_elim}
use Prim.Native.Nat.{ℕ, suc, ◌^◌, ◌≤◌, ◌<◌, zero-le}
use native.Mathlib.Omega.{arith}
use lib.Dec.{eqb}
use borrow.Author.Tests.{eq-eqb}
use lib.IntN.{ℤ, pos, nat_abs, +ℤ_idr}
use lib.ListN.{length, set, length-set}
use lib.Seq.{get_or-set_same, get_or-set_other}
use lib.Ieee.{Float, nan, binary64, of_int}
use Rattle.float.specs.Float.{add64, zero64}
use Rattle.store.specs.Region.{at, idx}
use Rattle.store.specs.Vector.{filled}
use Rattle.store.proofs.store.Loop.{for_count, for_keeps}
use Rattle.store.proofs.store.Vector.{length_tab, get_d_tab}
use Rattle.galerkin.specs.Whole.{Whole, sizes}
use Rattle.galerkin.specs.Product.{Σℤ, when}
use Rattle.galerkin.proofs.exact.Whole.{add_whole, halves, zero_is, of_int_whole}
use Rattle.galerkin.proofs.exact.Sums.{Σ-same, Σ-zero, Σ-size, sizes_mono}
use Rattle.galerkin.proofs.exact.Product.{entry_sum, product_is, product_mirror}
use Rattle.pattern.specs.Pattern.{Pattern, entries, row_of, column_of, Valid, Rising, Mirrored, coarse_positions, coarse, Maps}
use Rattle.pattern.specs.Steps.{joins_by}
use Rattle.pattern.proofs.pattern.Number.{bool?, same?}
use Rattle.pattern.proofs.pattern.Row.{row_in, joins_only}
use Rattle.pattern.proofs.pattern.Coarse.{position_below, position_exactly}
use Rattle.galerkin.specs.Values.{sums_of, average_face, symmetrize_of}
use Rattle.galerkin.specs.Turns.{add_entry, mean_of}
use Rattle.galerkin.specs.Contract.{galerkin_of}
use Rattle.galerkin_theorem.specs.Theorem.{WholeValues, MirrorPairs, fine_matrix, coarse_matrix, Exactly}
use Rattle.galerkin_theorem.proofs.Mirror.{fine_symmetric}

-- ---- the sums

module _ (total m : ℕ) (positions : List ℕ) (values : List Float) (z : ℕ → ℤ) (near : (e : ℕ) → e < m → idx positions e < total)
    (whole : (e : ℕ) → e < m → Whole (at values e) (z e)) (small : sizes m z ≤ 2 ^ 53) where
  -- the whole number at q after k entries
  abbrev sum_at : ℕ → ℕ → ℤ
  sum_at k q = Σℤ k (λ e. when (eqb (idx positions e) q) (z e))

  record Summed (k : ℕ) (v : List Float) : Type 0 where
    pub size : length v ≡ total
    pub sums : (q : ℕ) → q < total → at v q ≡ of_int binary64 (sum_at k q)

  summed_start : Summed 0 (filled total zero64)
  unfolding Σℤ
  summed_start = record { size = length_tab (λ _. zero64) total; sums = λ q h. get_d_tab (λ _. zero64) total q nan h ∙ zero_is }

  summed_on : (k : ℕ) → k < m → (v : List Float) → Summed k v → Summed (suc k) (add_entry positions values k v)
  unfolding add_entry Σℤ
  summed_on k h v s =
      let i = idx positions k in
      let x = add64 (at v i) (at values k) in
      let n = near k h in
      let long : length v ≡ total = s.size in
      record {
        size = length-set v i x ∙ long;
        sums = λ q l. ⊎_elim
            (λ w.
            let small' : nat_abs (sum_at k q) ≤ 2 ^ 53 = omega (arith, Σ-size k (λ e. eqb (idx positions e) q) z, sizes_mono z k m (omega arith)) in
            rw (w.1, w.0) (get_or-set_same v q (add64 (at v q) (at values k)) nan (omega arith) ∙ ap (λ (y : Float). add64 y (at values k)) (s.sums q l) ∙ add_whole binary64 (sum_at k q) (at values k) (z k) small' (whole k h)))
            (λ w. rw w.1 (get_or-set_other v i q x nan (λ e. w.0 (sym e)) ∙ s.sums q l ∙ ap (of_int binary64) (sym (+ℤ_idr (sum_at k q)))))
            (same? i q);
      }

  -- A sum is exact.
  sums_exact : Summed m (sums_of total m positions values)
  unfolding sums_of add_entry
  sums_exact = for_count (λ (k : ℕ) (v : List Float). Summed k v) (add_entry positions values) 0 m zero-le (λ k _ h v s. summed_on k h v s) (filled total zero64) summed_start

-- ---- half plus half

-- Each value of the pattern is B's whole number.
record Holds (c : Pattern) (B : ℕ → ℕ → ℤ) (v : List Float) : Type 0 where
  pub size : length v ≡ entries c
  pub values : (q : ℕ) → q < entries c → at v q ≡ of_int binary64 (B (row_of c q) (column_of c q))

module _ (c : Pattern) (B : ℕ → ℕ → ℤ) (mirror : (i j : ℕ) → B i j ≡ B j i) (small : (q : ℕ) → q < entries c → nat_abs (B (row_of c q) (column_of c q)) ≤ 2 ^ 53)
    (faces : ℕ) (upper lower : List ℕ) (pairs : MirrorPairs c faces upper lower) where
  -- A store of what stands there changes nothing.
  holds_set : (v : List Float) (i : ℕ) (x : Float) → i < entries c → x ≡ of_int binary64 (B (row_of c i) (column_of c i)) → Holds c B v → Holds c B (set v i x)
  holds_set v i x h e s = let long : length v ≡ entries c = s.size in record {
    size = length-set v i x ∙ long;
    values = λ q l. ⊎_elim
        (λ w. rw (← w.0) (get_or-set_same v i x nan (omega arith) ∙ e))
        (λ w. get_or-set_other v i q x nan (λ t. w.0 (sym t)) ∙ s.values q l)
        (same? i q);
  }

  face_exact : (k : ℕ) → k < faces → (v : List Float) → Holds c B v → Holds c B (average_face upper lower k v)
  unfolding average_face
  face_exact k h v s =
      let i = idx upper k in
      let j = idx lower k in
      let y = of_int binary64 (B (row_of c i) (column_of c i)) in
      let up : at v i ≡ y = s.values i (pairs.uppers k h) in
      let same : B (row_of c j) (column_of c j) ≡ B (row_of c i) (column_of c i) = rw (pairs.rows k h, pairs.columns k h) (mirror (column_of c i) (row_of c i)) in
      let low : at v j ≡ y = s.values j (pairs.lowers k h) ∙ ap (of_int binary64) same in
      let mean : mean_of (at v i) (at v j) ≡ y = rw (up, low) (halves (B (row_of c i) (column_of c i)) (small i (pairs.uppers k h))) in
      holds_set (set v i (mean_of (at v i) (at v j))) j (mean_of (at v i) (at v j)) (pairs.lowers k h) (mean ∙ ap (of_int binary64) (sym same))
      (holds_set v i (mean_of (at v i) (at v j)) (pairs.uppers k h) mean s)

  -- Half plus half changes nothing.
  faces_exact : (v : List Float) → Holds c B v → Holds c B (symmetrize_of faces upper lower v)
  unfolding symmetrize_of
  faces_exact v s = for_keeps (λ (u : List Float). Holds c B u) (average_face upper lower) 0 faces (λ k _ h u t. face_exact k h u t) v s

-- ---- the theorem

both : (a b : Bool) (y : ℤ) → when (a && b) y ≡ when a (when b y)
both true b y = refl
both false b y = refl

module _ (p : Pattern) (map : List ℕ) (count faces : ℕ) (upper lower : List ℕ) (values : List Float) (z : ℕ → ℤ)
    (valid : Valid p) (rising : Rising p) (mirrored : Mirrored p) (maps : Maps map p.rows count)
    (pairs : MirrorPairs (coarse p map count) faces upper lower) (fine : WholeValues p values z) where
  abbrev c : Pattern
  c = coarse p map count

  -- Pᵀ A P is the sum over the fine entries between two aggregates.
  product_sum : (a b : ℕ) → coarse_matrix p map z a b ≡ Σℤ (entries p) (λ e. when (joins_by p map a b e) (z e))
  unfolding entry_sum joins_by
  product_sum a b =
      product_is p.rows (entries p) (idx map) (row_of p) (λ e. column_of p e) z (λ e h. (row_in valid e h).0) (λ e h. valid.inside e h) a b
      ∙ Σ-same (entries p) (λ e. when (eqb (idx map (row_of p e)) a) (when (eqb (idx map (column_of p e)) b) (z e)))
      (λ e. when (eqb (idx map (row_of p e)) a && eqb (idx map (column_of p e)) b) (z e))
      (λ e h. sym (both (eqb (idx map (row_of p e)) a) (eqb (idx map (column_of p e)) b) (z e)))

  product_small : (a b : ℕ) → nat_abs (coarse_matrix p map z a b) ≤ 2 ^ 53
  product_small a b = rw (product_sum a b) (omega (arith, Σ-size (entries p) (joins_by p map a b) z, fine.small))

  -- The sums are Pᵀ A P.
  sums_hold : Holds c (coarse_matrix p map z) (sums_of (entries c) (entries p) (coarse_positions p map count) values)
  sums_hold =
      let s = sums_exact (entries c) (entries p) (coarse_positions p map count) values z (position_below p map count valid maps) fine.whole fine.small in
      record {
        size = s.size;
        values = λ q h. s.sums q h ∙ ap (of_int binary64)
            (Σ-same (entries p) (λ e. when (eqb (idx (coarse_positions p map count) e) q) (z e)) (λ e. when (joins_by p map (row_of c q) (column_of c q) e) (z e))
            (λ e l. ap (λ (b : Bool). when b (z e)) (position_exactly p map count valid maps e q l h))
            ∙ sym (product_sum (row_of c q) (column_of c q)));
      }

  -- A fine entry that joins a to b has the position of a coarse entry (a, b).
  joined_inside : (a b e : ℕ) → e < entries p → joins_by p map a b e ≡ true
      → (q : ℕ) × (q < entries c) × (row_of c q ≡ a) × (column_of c q ≡ b)
  joined_inside a b e h t =
      let q = idx (coarse_positions p map count) e in
      let l : q < entries c = position_below p map count valid maps e h in
      let own : joins_by p map (row_of c q) (column_of c q) e ≡ true = sym (position_exactly p map count valid maps e q h l) ∙ eq-eqb q q refl in
      let u = joins_only p map (row_of c q) (column_of c q) e own in
      let v = joins_only p map a b e t in
      (q, l, sym u.0 ∙ v.0, sym u.1 ∙ v.1)

  -- Outside the coarse pattern Pᵀ A P is zero.
  product_outside : (a b : ℕ) → ((q : ℕ) → q < entries c → row_of c q ≡ a → column_of c q ≡ b → ⊥) → coarse_matrix p map z a b ≡ pos 0
  product_outside a b none =
      product_sum a b
      ∙ Σ-same (entries p) (λ e. when (joins_by p map a b e) (z e)) (λ e. pos 0) (λ e h. ⊎_elim
      (λ t. absurd (let w = joined_inside a b e h t in none w.0 w.1 w.2 w.3))
      (λ f. ap (λ (t : Bool). when t (z e)) f)
      (bool? (joins_by p map a b e)))
      ∙ Σ-zero (entries p)

  holds : Holds c (coarse_matrix p map z) (galerkin_of (entries c) (entries p) (coarse_positions p map count) values faces upper lower)
  holds =
      faces_exact c (coarse_matrix p map z)
      (product_mirror p.rows (idx map) (fine_matrix p z) (fine_symmetric p valid rising mirrored fine))
      (λ q _. product_small (row_of c q) (column_of c q)) faces upper lower pairs
      (sums_of (entries c) (entries p) (coarse_positions p map count) values) sums_hold

  inside : (q : ℕ) → q < entries c
      → Whole (at (galerkin_of (entries c) (entries p) (coarse_positions p map count) values faces upper lower) q) (coarse_matrix p map z (row_of c q) (column_of c q))
  inside q h = rw (holds.values q h) (of_int_whole (coarse_matrix p map z (row_of c q) (column_of c q)) (product_small (row_of c q) (column_of c q)))

-- The coarse matrix is exactly the Galerkin product Pᵀ A P with piecewise constant transfer (Trottenberg, Oosterlee, Schüller).
pub galerkin_exact : (p : Pattern) (map : List ℕ) (count faces : ℕ) (upper lower : List ℕ) (values : List Float) (z : ℕ → ℤ)
    → Valid p → Rising p → Mirrored p → Maps map p.rows count
    → MirrorPairs (coarse p map count) faces upper lower
    → WholeValues p values z
    → Exactly (coarse p map count)
    (galerkin_of (entries (coarse p map count)) (entries p) (coarse_positions p map count) values faces upper lower)
    (coarse_matrix p map z)
galerkin_exact p map count faces upper lower values z valid rising mirrored maps pairs fine = record {
  inside = inside p map count faces upper lower values z valid rising mirrored maps pairs fine;
  outside = product_outside p map count faces upper lower values z valid rising mirrored maps pairs fine;
}
