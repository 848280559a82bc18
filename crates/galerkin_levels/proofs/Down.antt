-- Whole values go down: where the values of a matrix are whole, mirrors are equal and absolute values sum to at most 2^53, so it is with
-- the coarse matrix. The sum of absolute values never grows: each fine entry is added to one coarse entry.
-- Assumes nothing.
use mathlib.Core.Path.{◌≡◌, refl, sym, ap, ◌∙◌, fun_ext}
use mathlib.Core.Bool.{Bool, true, false, ◌&&◌}
use mathlib.Core.List.{List}
use mathlib.Core.Logic.{⊎_elim}
use Prim.Native.Nat.{ℕ, zero, suc, ◌+◌, ◌≤◌, ◌<◌}
use native.Mathlib.Omega.{arith}
use lib.Dec.{eqb}
use lib.IntN.{ℤ, pos, nat_abs, ◌+ℤ◌, +ℤ_idr}
use lib.Ieee.{Float}
use borrow.Author.Tests.{ne_eqb}
use Rattle.store.specs.Region.{idx}
use Rattle.store.proofs.store.Region.{le_or_lt}
use Rattle.galerkin.specs.Whole.{sizes}
use Rattle.galerkin.specs.Product.{Σℤ, when}
use Rattle.galerkin.specs.Contract.{galerkin_of}
use Rattle.galerkin.proofs.exact.Whole.{nat_abs_add}
use Rattle.galerkin.proofs.exact.Sums.{Σ-same}
use Rattle.galerkin.proofs.exact.Product.{entry_sum, product_is, product_mirror}
use Rattle.pattern.specs.Pattern.{Pattern, entries, row_of, column_of, coarse, coarse_positions, Maps}
use Rattle.pattern.specs.Steps.{joins_by}
use Rattle.pattern.proofs.pattern.Number.{bool?, not_both}
use Rattle.pattern.proofs.pattern.Row.{row_in}
use Rattle.pattern.proofs.pattern.Coarse.{coarse_valid, coarse_rising, coarse_mirrored, position_exactly}
use Rattle.faces.specs.Faces.{faces_of, uppers_of, lowers_of, has_entry}
use Rattle.faces.proofs.faces.Laws.{faces_of_lem}
use Rattle.faces.proofs.faces.Entries.{has_at, has_which}
use Rattle.galerkin_theorem.specs.Theorem.{WholeValues, fine_matrix, coarse_matrix, Exactly}
use Rattle.galerkin_theorem.proofs.Mirror.{fine_symmetric}
use Rattle.galerkin_theorem.proofs.Theorem.{galerkin_exact}
use Rattle.hierarchy.specs.Proper.{Proper}
use Rattle.galerkin_levels.specs.Steps.{Matrix}
use Rattle.galerkin_levels.proofs.Dense.{dense_at, dense_none}

-- ---- sums of absolute values

-- Those of equal numbers are equal.
sizes_same : (n : ℕ) (g h : ℕ → ℤ) → ((i : ℕ) → i < n → g i ≡ h i) → sizes n g ≡ sizes n h
unfolding sizes
sizes_same zero g h e = refl
sizes_same (suc n) g h e = rw (sizes_same n g h (λ i l. e i (omega arith)), e n (omega arith))

-- That of zeros is zero.
sizes_zero : (n : ℕ) → sizes n (λ i. pos 0) ≡ 0
unfolding sizes
sizes_zero zero = refl
sizes_zero (suc n) = rw (sizes_zero n)

-- A number w more at a place a past all of them changes nothing,
past : (n a : ℕ) (g : ℕ → ℤ) (w : ℤ) → n ≤ a → sizes n (λ q. g q +ℤ when (eqb a q) w) ≡ sizes n g
past n a g w h = sizes_same n (λ q. g q +ℤ when (eqb a q) w) g (λ q l. rw (ne_eqb a q (λ e. omega arith)) (+ℤ_idr (g q)))

-- and anywhere adds at most its own absolute value.
one_more : (n a : ℕ) (g : ℕ → ℤ) (w : ℤ) → sizes n (λ q. g q +ℤ when (eqb a q) w) ≤ sizes n g + nat_abs w
unfolding sizes
one_more zero a g w = omega arith
one_more (suc n) a g w = ⊎_elim
    (λ (h : n ≤ a). omega (arith, past n a g w h, nat_abs_add (g n) (when (eqb a n) w), less (eqb a n)))
    (λ (h : a < n).
    let none : nat_abs (when (eqb a n) w) ≡ 0 = rw (ne_eqb a n (λ e. omega arith)) refl in
    omega (arith, one_more n a g w, nat_abs_add (g n) (when (eqb a n) w)))
    (le_or_lt n a)
  where
    less : (b : Bool) → nat_abs (when b w) ≤ nat_abs w
    less true = omega arith
    less false = omega arith

-- Numbers that are added up, each at one place, have sums whose absolute values sum to no more than theirs.
sums_small : (n m : ℕ) (place : ℕ → ℕ) (z : ℕ → ℤ) → sizes n (λ q. Σℤ m (λ e. when (eqb (place e) q) (z e))) ≤ sizes m z
unfolding sizes Σℤ
sums_small n zero place z = let none : sizes n (λ q. Σℤ 0 (λ e. when (eqb (place e) q) (z e))) ≡ 0 = sizes_zero n in omega arith
sums_small n (suc m) place z =
    let on : sizes n (λ q. Σℤ (suc m) (λ e. when (eqb (place e) q) (z e))) ≤ sizes n (λ q. Σℤ m (λ e. when (eqb (place e) q) (z e))) + nat_abs (z m) =
    one_more n (place m) (λ q. Σℤ m (λ e. when (eqb (place e) q) (z e))) (z m) in
    omega (arith, sums_small n m place z)

-- ---- the coarse matrix

-- the value of entry e in a matrix of pattern p
abbrev pub value_in : Pattern → Matrix → ℕ → ℤ
value_in p B e = B (row_of p e) (column_of p e)

-- the coarse values, as the build makes them
abbrev pub galerkin_values : Pattern → List ℕ → ℕ → List Float → List Float
galerkin_values p map count values =
    let q = coarse p map count in
    galerkin_of (entries q) (entries p) (coarse_positions p map count) values (faces_of q) (uppers_of q) (lowers_of q)

both : (a b : Bool) (y : ℤ) → when a (when b y) ≡ when (a && b) y
both true b y = refl
both false b y = refl

module _ {p : Pattern} {map : List ℕ} {count : ℕ} {values : List Float} {z : ℕ → ℤ} (f : Proper p) (maps : Maps map p.rows count)
    (fine : WholeValues p values z) where
  abbrev c : Pattern
  c = coarse p map count

  -- The coarse matrix is exactly Pᵀ A P.
  pub coarse_exact : Exactly c (galerkin_values p map count values) (coarse_matrix p map z)
  coarse_exact =
      galerkin_exact p map count (faces_of c) (uppers_of c) (lowers_of c) values z f.valid f.rising f.mirrored maps
      (faces_of_lem (coarse_valid p map count) (coarse_rising p map count) (coarse_mirrored p map count f.valid maps f.mirrored)).pairs fine

  -- At a coarse entry Pᵀ A P is the sum of the fine entries that are added to it.
  product_at_lem : (q : ℕ) → q < entries c
      → value_in c (coarse_matrix p map z) q ≡ Σℤ (entries p) (λ e. when (eqb (idx (coarse_positions p map count) e) q) (z e))
  unfolding entry_sum joins_by
  product_at_lem q h =
      let a = row_of c q in
      let b = column_of c q in
      product_is p.rows (entries p) (idx map) (row_of p) (λ e. column_of p e) z (λ e l. (row_in f.valid e l).0) (λ e l. f.valid.inside e l) a b
      ∙ Σ-same (entries p) (λ e. when (eqb (idx map (row_of p e)) a) (when (eqb (idx map (column_of p e)) b) (z e)))
      (λ e. when (eqb (idx (coarse_positions p map count) e) q) (z e))
      (λ e l. both (eqb (idx map (row_of p e)) a) (eqb (idx map (column_of p e)) b) (z e)
      ∙ ap (λ (t : Bool). when t (z e)) (sym (position_exactly p map count f.valid maps e q l h)))

  -- The coarse values are whole, mirrors are equal, and absolute values sum to no more than those of the fine values.
  pub coarse_whole : WholeValues c (galerkin_values p map count values) (value_in c (coarse_matrix p map z))
  coarse_whole = record {
    whole = coarse_exact.inside;
    symmetric = λ e d h l row column. rw (row, column)
        (product_mirror p.rows (idx map) (fine_matrix p z) (fine_symmetric p f.valid f.rising f.mirrored fine) (column_of c e) (row_of c e));
    small =
        let place = idx (coarse_positions p map count) in
        let same : sizes (entries c) (value_in c (coarse_matrix p map z)) ≡ sizes (entries c) (λ q. Σℤ (entries p) (λ e. when (eqb (place e) q) (z e))) =
        sizes_same (entries c) (value_in c (coarse_matrix p map z)) (λ q. Σℤ (entries p) (λ e. when (eqb (place e) q) (z e))) product_at_lem in
        omega (arith, sums_small (entries c) (entries p) place z, fine.small);
  }

  -- As a matrix they are Pᵀ A P, outside the coarse pattern too.
  pub coarse_dense : fine_matrix c (value_in c (coarse_matrix p map z)) ≡ coarse_matrix p map z
  coarse_dense = fun_ext (λ i. fun_ext (λ j. go i j))
    where
      go : (i j : ℕ) → fine_matrix c (value_in c (coarse_matrix p map z)) i j ≡ coarse_matrix p map z i j
      go i j = ⊎_elim
          (λ (t : has_entry c i j ≡ true).
          let w = has_which c i j t in
          dense_at c (value_in c (coarse_matrix p map z)) (coarse_valid p map count) (coarse_rising p map count) w.0 i j w.1 w.2 w.3
          ∙ ap (λ (a : ℕ). coarse_matrix p map z a (column_of c w.0)) w.2 ∙ ap (coarse_matrix p map z i) w.3)
          (λ (t : has_entry c i j ≡ false).
          let none : (q : ℕ) → q < entries c → row_of c q ≡ i → column_of c q ≡ j → ⊥ = λ q h r s. not_both (has_at c i j q h r s) t in
          dense_none c (value_in c (coarse_matrix p map z)) i j none ∙ sym (coarse_exact.outside i j none))
          (bool? (has_entry c i j))
