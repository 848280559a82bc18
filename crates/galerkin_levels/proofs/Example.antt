-- The ring of specs/Ring.antt: its build has three levels, or two where two steps make a level, and the theorem speaks of them. What
-- the levels are holds by computing.
-- Assumes nothing.
use mathlib.Core.Path.{◌≡◌, refl, sym, ap, ◌∙◌}
use mathlib.Core.Bool.{Bool, true, false, not, ◌&&◌, ◌||◌}
use mathlib.Core.List.{List, [], ◌∷◌, map}
use Prim.Native.Nat.{ℕ, zero, suc, ◌^◌, ◌≤◌, ◌<◌}
use native.Mathlib.Omega.{arith}
use lib.Dec.{eqb, leb}
use lib.IntN.{ℤ, pos, negsuc, nat_abs}
use lib.ListN.{length, get_or, length-map}
use borrow.Author.Tests.{eqb-true, eq-eqb, leb-true}
use lib.Ieee.{Float, binary64, of_bits, of_int, add, sub, mul, div, lt, le, eq}
use Rattle.float.specs.Float.{is_finite, abs_of, is_positive}
use Rattle.float.specs.Sqrt.{sqrt_of}
use Rattle.store.specs.Loop.{iter, for}
use Rattle.store.specs.Region.{at, idx}
use Rattle.store.specs.Vector.{tab, each}
use Rattle.store.proofs.store.Each.{both_l, both_r, each_at}
use Rattle.options.specs.Options.{valid_of}
use Rattle.refusal.specs.Outcome.{Outcome, accepted, refused, ask_rows}
use Rattle.vector.specs.Finite.{all_finite}
use Rattle.coefficients.specs.Mirrors.{pair_agrees, mirrors_agree}
use Rattle.coefficients.specs.Update.{diagonal_asked, kernel_update_of}
use Rattle.cholesky.specs.Triangle.{tri}
use Rattle.cholesky.specs.Turns.{less_of}
use Rattle.cholesky.specs.Factor as factor
use Rattle.cholesky.specs.Turns as cholesky-turns
use Rattle.aggregation.specs.Pairs.{strengths_of, consider_of, strongest_of, assign_of, pair_row_of, pairs_of}
use Rattle.aggregation.specs.Turns.{entry_of, turn_of}
use Rattle.pattern.specs.Pattern as pattern
use Rattle.pattern.specs.Steps as pattern-steps
use Rattle.pattern.specs.Pattern.{Pattern, entries, row_of, column_of}
use Rattle.galerkin.specs.Values as galerkin
use Rattle.galerkin.specs.Turns as galerkin-turns
use Rattle.galerkin.specs.Whole.{sizes}
use Rattle.galerkin.specs.Product.{Σℤ, transfer, dense, galerkin_product}
use Rattle.galerkin.proofs.exact.Whole.{of_int_whole}
use Rattle.galerkin.proofs.exact.Sums.{sizes_mono}
use Rattle.galerkin_theorem.specs.Theorem.{WholeValues, fine_matrix}
use Rattle.faces.specs.Faces as faces
use Rattle.csr.specs.Questions as csr
use Rattle.csr.specs.Turns as csr-turns
use Rattle.csr.specs.Weights as weights
use Rattle.hierarchy.specs.Level.{Level, Hierarchy}
use Rattle.hierarchy.specs.First.{shapes_in}
use Rattle.hierarchy.specs.Refresh.{with_sums}
use Rattle.hierarchy.specs.Build.{merge_of, grow_of, pattern_in, symmetric_of, build_of}
use Rattle.hierarchy.proofs.Examples.{links_in, matrices_in}
use Rattle.update_levels.specs.Standing as standing
use Rattle.update_levels.specs.Update as update
use Rattle.galerkin_levels.specs.Levels.{ExactLevels}
use Rattle.galerkin_levels.specs.Ring.{controls, wholes, doubled, whole_at, ring, ample}
use Rattle.galerkin_levels.proofs.Theorem.{build_galerkin, update_galerkin}

-- ---- a test of the theorem's premises

same : ℤ → ℤ → Bool
same (pos a) (pos b) = eqb a b
same (pos a) (negsuc b) = false
same (negsuc a) (pos b) = false
same (negsuc a) (negsuc b) = eqb a b

same_true : (x y : ℤ) → same x y ≡ true → x ≡ y
unfolding same
same_true (pos a) (pos b) t = ap pos (eqb-true a b t)
same_true (pos a) (negsuc b) t = absurd (let z : ◌≡◌ {A = ℕ} 0 1 = cc in omega arith)
same_true (negsuc a) (pos b) t = absurd (let z : ◌≡◌ {A = ℕ} 0 1 = cc in omega arith)
same_true (negsuc a) (negsuc b) t = ap negsuc (eqb-true a b t)

-- whether entries e and d of pattern p have equal whole numbers if they are mirrors
agree : Pattern → List ℤ → ℕ → ℕ → Bool
agree p zs e d = not (eqb (row_of p d) (column_of p e) && eqb (column_of p d) (row_of p e)) || same (get_or zs d (pos 0)) (get_or zs e (pos 0))

-- whether there is a whole number for each entry, mirrors have equal ones, and absolute values sum to at most 2^53
fit : Pattern → List ℤ → Bool
fit p zs =
    eqb (length zs) (entries p) && leb (sizes (entries p) (λ e. get_or zs e (pos 0))) (2 ^ 53)
    && each (λ e. each (λ d. agree p zs e d) (entries p)) (entries p)

at_map : (zs : List ℤ) (e : ℕ) → e < length zs → at (map (of_int binary64) zs) e ≡ of_int binary64 (get_or zs e (pos 0))
at_map [] e h = absurd (omega arith)
at_map (z ∷ zs) zero h = refl
at_map (z ∷ zs) (suc e) h = at_map zs e (omega arith)

-- A number's absolute value is at most the sum of all.
one_of : (n : ℕ) (z : ℕ → ℤ) (e : ℕ) → e < n → nat_abs (z e) ≤ sizes n z
unfolding sizes
one_of n z e h = omega (arith, sizes_mono z (suc e) n (omega arith))

-- Where the test passes, the numbers as floats are whole values.
fit_whole : (p : Pattern) (zs : List ℤ) → fit p zs ≡ true → WholeValues p (map (of_int binary64) zs) (λ e. get_or zs e (pos 0))
unfolding fit agree
fit_whole p zs t =
    let z : ℕ → ℤ = λ e. get_or zs e (pos 0) in
    let n = entries p in
    let all : Bool = each (λ e. each (λ d. agree p zs e d) n) n in
    let sized = both_l (eqb (length zs) n && leb (sizes n z) (2 ^ 53)) all t in
    let long : length zs ≡ n = eqb-true (length zs) n (both_l (eqb (length zs) n) (leb (sizes n z) (2 ^ 53)) sized) in
    let small : sizes n z ≤ 2 ^ 53 = leb-true (sizes n z) (2 ^ 53) (both_r (eqb (length zs) n) (leb (sizes n z) (2 ^ 53)) sized) in
    record {
      whole = λ e h. rw (at_map zs e (omega arith)) (of_int_whole (z e) (omega (arith, one_of n z e h)));
      symmetric = λ e d h l row column.
          let pair = each_at (λ d. agree p zs e d) n (each_at (λ e. each (λ d. agree p zs e d) n) n (both_r (eqb (length zs) n && leb (sizes n z) (2 ^ 53)) all t) e h) d l in
          same_true (z d) (z e) (rw (eq-eqb (row_of p d) (column_of p e) row, eq-eqb (column_of p d) (row_of p e) column) at pair);
      small = small;
    }

-- ---- the ring

-- Its values are whole, mirrors are equal, and absolute values sum to 56; those of the update sum to 112.
ring_fits : (fit (pattern_in (ring 0)) wholes ≡ true) × (fit (pattern_in (ring 0)) doubled ≡ true)
unfolding fit agree same sizes each pattern.row_of pattern.how_many
ring_fits = (refl, refl)

-- the levels of an outcome
unfoldable pub levels_in : Outcome Hierarchy → List Level
levels_in (accepted h) = h.levels
levels_in (refused q) = []

-- the update of levels of the ring to twice its values
abbrev updated : List Level → Outcome Hierarchy
updated levels = update.update_of (controls 1) (shapes_in levels) (ring 1).offsets (ring 1).columns (map (of_int binary64) doubled)

-- What the ring's builds and its update make. With one step to a level there are three levels: their aggregates, and at the end the
-- coupled rows; and their matrices, the diagonal first and then the faces. With two steps to a level there are two, and the aggregates
-- are those of both steps. An update with twice the values has twice the coarsest matrix.
pub record RingLevels : Type 0 where
  pub aggregates : links_in (build_of ample (ring 1)) ≡ (0 ∷ 1 ∷ 1 ∷ 2 ∷ 2 ∷ 3 ∷ 3 ∷ 0 ∷ []) ∷ (0 ∷ 1 ∷ 1 ∷ 0 ∷ []) ∷ (0 ∷ 1 ∷ []) ∷ []
  pub matrices : matrices_in (build_of ample (ring 1)) ≡ map (map (of_int binary64)) (
      (pos 4 ∷ pos 4 ∷ pos 4 ∷ pos 4 ∷ pos 4 ∷ pos 4 ∷ pos 4 ∷ pos 4
      ∷ negsuc 1 ∷ negsuc 0 ∷ negsuc 0 ∷ negsuc 1 ∷ negsuc 0 ∷ negsuc 1 ∷ negsuc 0 ∷ negsuc 1 ∷ [])
      ∷ (pos 6 ∷ pos 6 ∷ pos 6 ∷ pos 6 ∷ negsuc 1 ∷ negsuc 1 ∷ negsuc 1 ∷ negsuc 1 ∷ [])
      ∷ (pos 8 ∷ pos 8 ∷ negsuc 3 ∷ [])
      ∷ [])
  pub merges : links_in (build_of ample (ring 2)) ≡ (0 ∷ 1 ∷ 1 ∷ 1 ∷ 1 ∷ 0 ∷ 0 ∷ 0 ∷ []) ∷ (0 ∷ 1 ∷ []) ∷ []
  pub updates : matrices_in (updated (levels_in (build_of ample (ring 1)))) ≡ map (map (of_int binary64)) (
      (pos 8 ∷ pos 8 ∷ pos 8 ∷ pos 8 ∷ pos 8 ∷ pos 8 ∷ pos 8 ∷ pos 8
      ∷ negsuc 3 ∷ negsuc 1 ∷ negsuc 1 ∷ negsuc 3 ∷ negsuc 1 ∷ negsuc 3 ∷ negsuc 1 ∷ negsuc 3 ∷ [])
      ∷ (pos 12 ∷ pos 12 ∷ pos 12 ∷ pos 12 ∷ negsuc 3 ∷ negsuc 3 ∷ negsuc 3 ∷ negsuc 3 ∷ [])
      ∷ (pos 16 ∷ pos 16 ∷ negsuc 7 ∷ [])
      ∷ [])

pub ring_levels : RingLevels
unfolding links_in matrices_in levels_in update.update_of update.renew_of update.same_list update.same_pattern standing.diagonal_stands standing.diagonals_stand build_of symmetric_of grow_of with_sums merge_of csr.size_ok csr.never_fall csr.offsets_ok csr.entry_ok csr.row_ok csr-turns.step_ok csr-turns.row_at csr-turns.entry_from csr.columns_ok csr-turns.weight_ok weights.weights_ok valid_of is_finite lt le eq of_bits of_int add sub mul div sqrt_of each tab for iter ask_rows pair_agrees mirrors_agree pattern.some pattern.how_many pattern.those pattern.row_of pattern.sum_to pattern.flat pattern.start_of pattern.column_place_of pattern-steps.joins_by pattern.joins pattern.coarse_offsets pattern.coarse_columns pattern.coarse_positions pattern.compose_of faces.above faces.faces_of faces.uppers_of faces.face_offsets_of faces.neighbors_of faces.has_entry faces.stands_at faces.mirrored_of faces.lowers_of faces.diagonals_asked faces.diagonals_of faces.coupled_of faces.coupled_count_of faces.coupled_rows_of kernel_update_of diagonal_asked is_positive tri factor.seek_of factor.get_of less_of factor.rest_of cholesky-turns.column_of factor.columns_of factor.factor_row_of factor.rows_of factor.cholesky_of abs_of all_finite strengths_of consider_of entry_of strongest_of assign_of pair_row_of turn_of pairs_of galerkin-turns.add_entry galerkin.sums_of galerkin.average_face galerkin.symmetrize_of galerkin.zero_entry galerkin-turns.zero_entries galerkin.zero_diagonal_of
ring_levels = record { aggregates = refl; matrices = refl; merges = refl; updates = refl }

-- ---- the theorem on the ring

-- A build of a hierarchy with so many levels, each exactly the Galerkin product of the level above.
pub record RingExact (steps count : ℕ) : Type 0 where
  pub hierarchy : Hierarchy
  pub built : build_of ample (ring steps) ≡ accepted hierarchy
  pub deep : length hierarchy.levels ≡ count
  pub exact : ExactLevels (pattern_in (ring steps)) whole_at hierarchy.levels

-- An outcome with matrices is accepted.
accepted_of : (o : Outcome Hierarchy) {u : List Float} {v : List (List Float)} → matrices_in o ≡ u ∷ v → (h : Hierarchy) × (o ≡ accepted h)
unfolding matrices_in
accepted_of (accepted h) e = (h, refl)
accepted_of (refused q) e = absurd (let z : ◌≡◌ {A = ℕ} 0 1 = cc in omega arith)

-- One whose levels have links is, and has as many levels.
accepted_has : (o : Outcome Hierarchy) {u : List ℕ} {v : List (List ℕ)} → links_in o ≡ u ∷ v
    → (h : Hierarchy) × (o ≡ accepted h) × (length h.levels ≡ length (u ∷ v))
unfolding links_in
accepted_has (accepted h) e = (h, refl, sym (length-map h.levels (λ (l : Level). l.shape.links)) ∙ ap length e)
accepted_has (refused q) e = absurd (let z : ◌≡◌ {A = ℕ} 0 1 = cc in omega arith)

ring_exact_by : (steps : ℕ) {u : List ℕ} {v : List (List ℕ)} → links_in (build_of ample (ring steps)) ≡ u ∷ v → RingExact steps (length (u ∷ v))
ring_exact_by steps e =
    let a = accepted_has (build_of ample (ring steps)) e in
    record {
      hierarchy = a.0;
      built = a.1;
      deep = a.2;
      exact = build_galerkin ample (ring steps) (omega arith) a.1 whole_at (fit_whole (pattern_in (ring steps)) wholes ring_fits.0);
    }

-- The three levels of the ring are exact,
pub ring_exact : RingExact 1 3
ring_exact = ring_exact_by 1 ring_levels.aggregates

-- and the two that merged steps make,
pub ring_merged : RingExact 2 2
ring_merged = ring_exact_by 2 ring_levels.merges

-- and the three after the update.
pub ring_updated : (k : Hierarchy) × (updated ring_exact.hierarchy.levels ≡ accepted k) × ExactLevels (pattern_in (ring 1)) (λ e. get_or doubled e (pos 0)) k.levels
unfolding levels_in
ring_updated =
    let r = ring_exact in
    let e = rw r.built at ring_levels.updates in
    let a = accepted_of (updated r.hierarchy.levels) e in (
      a.0,
      a.1,
      update_galerkin ample (ring 1) (omega arith) r.built (controls 1) (ring 1).offsets (ring 1).columns (map (of_int binary64) doubled) a.1
          (λ e. get_or doubled e (pos 0)) (fit_whole (pattern_in (ring 1)) doubled ring_fits.1),
    )

-- the entries (0, 0), (0, 1), (1, 0) and (1, 1) of the Galerkin product of the finest with the composed map
abbrev coarsest : List ℤ
coarsest =
    let B = galerkin_product 8 (idx (0 ∷ 1 ∷ 1 ∷ 1 ∷ 1 ∷ 0 ∷ 0 ∷ 0 ∷ [])) (fine_matrix (pattern_in (ring 1)) whole_at) in
    B 0 0 ∷ B 0 1 ∷ B 1 0 ∷ B 1 1 ∷ []

-- As whole numbers they are 8, −4; −4, 8.
pub ring_product : coarsest ≡ pos 8 ∷ negsuc 3 ∷ negsuc 3 ∷ pos 8 ∷ []
unfolding galerkin_product dense transfer Σℤ pattern.row_of pattern.how_many
ring_product = refl
