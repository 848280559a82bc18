-- The values of a load are whole numbers, mirrors are equal, and absolute values sum to at most 2^53. Assumes nothing.
use Rattle.std.proofs.Common.{◌≡◌, ℕ, zero, suc, ◌+◌, ◌-◌, ◌*◌, ◌<◌, ◌≤◌, true, false, cond, eqb, ltb, leb, List, [], ◌∷◌, ◌++◌, map, length, get_or, ℤ, pos, neg_ℤ, nat_abs, sym, refl, ap, ◌∙◌, subst, ap₂, ⊎_elim, suc-mul, mul-pos, arith, length-append, ltb-true, eq-eqb, ne_eqb, leb-true}
use mathlib.Core.List.{map-append}
use lib.ListN.{length-map, get_or-map}
use lib.Ieee.{Float, nan, binary64, of_int}
use Rattle.store.specs.Region.{at}
use Rattle.store.proofs.store.Region.{le_or_lt}
use Rattle.store.proofs.store.Each.{both_l, both_r}
use Rattle.galerkin.specs.Whole.{Whole, sizes}
use Rattle.galerkin.proofs.exact.Whole.{of_int_whole}
use Rattle.pattern.specs.Pattern.{sum_to, entries, column_of, row_of}
use Rattle.pattern.proofs.pattern.Number.{bool?, same?}
use Rattle.galerkin_theorem.specs.Theorem.{WholeValues}
use Rattle.load.specs.Box.{Grid, Axis, axes_from, has_ahead, has_behind, ahead_of, behind_of, cells_of, box, all_positive, extents_ok}
use Rattle.load.specs.Load.{joined, total, conductance_of, columns_in, own_of, off_of, wholes_in, row_start, pattern_of, wholes_of, values_of}
use Rattle.load.specs.Theorem.{Between, Neat, whole_at}
use Rattle.load.proofs.Lists.{start_in, length_joined, joined_at}
use Rattle.load.proofs.Whole.{nat_abs_off}
use Rattle.load.proofs.Rows.{conductance_both}
use Rattle.load.proofs.Mirrors.{starts_alike}
use Rattle.load.proofs.Cell.{conductance_small}
use Rattle.load.proofs.Walk.{get_d_in}
use Rattle.load.proofs.Neat.{box_neat, ahead_two, behind_two}
use Rattle.load.proofs.Pattern.{standing, row_of_lem, entries_are}

-- Few cells, and few faces to a cell.
pub record Lean (m : Grid) : Type 0 where
  pub few : m.cells ≤ 65536
  pub behind : (i : ℕ) → length (m.behind i) ≤ 16
  pub ahead : (i : ℕ) → length (m.ahead i) ≤ 16

module _ (seed : ℕ) (m : Grid) where
  -- the entry of row i in column j
  abbrev entry_of : ℕ → ℕ → ℤ
  entry_of i j = cond (eqb i j) (pos (own_of seed m i)) (off_of seed m i j)

  -- It is the same from both sides.
  entry_both : (i j : ℕ) → entry_of i j ≡ entry_of j i
  entry_both i j = ⊎_elim
      (λ (w : (i ≡ j) × (eqb i j ≡ true)). rw w.0 refl)
      (λ (w : (i ≡ j → ⊥) × (eqb i j ≡ false)). rw (w.1, ne_eqb j i (λ e. w.0 (sym e))) (ap (λ (c : ℕ). neg_ℤ (pos c)) (conductance_both seed m i j)))
      (same? i j)

  -- Off the diagonal the entries are those of the faces.
  map_off : (i lo hi : ℕ) (l : List ℕ) → Between lo hi l → ((x : ℕ) → lo ≤ x → x < hi → i ≡ x → ⊥) → map (off_of seed m i) l ≡ map (entry_of i) l
  map_off i lo hi [] b ne = refl
  map_off i lo hi (x ∷ l) b ne =
      let p = b.0 in
      rw (ne_eqb i x (ne x b.0 b.1), map_off i (x + 1) hi l b.2 (λ y s t. ne y (omega arith) t)) refl

  module _ (neat : Neat m) where
    -- So a row is that of its entries by columns.
    pub wholes_entry : (i : ℕ) → i < m.cells → wholes_in seed m i ≡ map (entry_of i) (columns_in m i)
    unfolding wholes_in columns_in
    wholes_entry i h =
        rw (
          map-append (entry_of i) (m.behind i) (i ∷ m.ahead i),
          eq-eqb i i refl,
          map_off i 0 i (m.behind i) (neat.below i h) (λ x s t e. omega arith),
          map_off i (i + 1) m.cells (m.ahead i) (neat.above i h) (λ x s t e. omega arith),
        ) refl

    -- The whole number of an entry, by its row and column.
    pub whole_is : (e : ℕ) → e < entries (pattern_of m) → whole_at seed m e ≡ entry_of (row_of (pattern_of m) e) (column_of (pattern_of m) e)
    unfolding wholes_of
    whole_is e h =
        let s = standing neat e h in
        let r = s.row in
        let k = s.place in
        let a : e ≡ start_in (wholes_in seed m) r + k = s.is ∙ ap (λ (n : ℕ). n + k) (sym (starts_alike seed m r)) in
        let lw : length (wholes_in seed m r) ≡ length (columns_in m r) = ap length (wholes_entry r s.inside) ∙ length-map (columns_in m r) (entry_of r) in
        let lm : length (map (entry_of r) (columns_in m r)) ≡ length (columns_in m r) = length-map (columns_in m r) (entry_of r) in
        let n = s.within in
        ap (λ (x : ℕ). get_or (joined (wholes_in seed m) m.cells) x (pos 0)) a ∙ joined_at (wholes_in seed m) m.cells r k (pos 0) s.inside (omega arith)
        ∙ ap (λ (l : List ℤ). get_or l k (pos 0)) (wholes_entry r s.inside)
        ∙ get_d_in (map (entry_of r) (columns_in m r)) k (pos 0) (entry_of r 0) (omega arith)
        ∙ get_or-map (entry_of r) (columns_in m r) k 0
        ∙ ap₂ entry_of (sym (row_of_lem neat e h)) (sym s.column)

    module _ (lean : Lean m) where
      total_small : (i : ℕ) (l : List ℕ) → total (conductance_of seed m i) l ≤ 1024 * length l
      unfolding total
      total_small i [] = omega arith
      total_small i (x ∷ l) = omega (arith, conductance_small seed m i x, total_small i l)

      own_small : (i : ℕ) → own_of seed m i ≤ 32769
      unfolding own_of
      own_small i = omega (arith, total_small i (m.behind i), total_small i (m.ahead i), lean.behind i, lean.ahead i)

      -- Each is small.
      pub entry_small : (i j : ℕ) → nat_abs (entry_of i j) ≤ 32769
      entry_small i j = ⊎_elim
          (λ (t : eqb i j ≡ true). rw t (own_small i))
          (λ (t : eqb i j ≡ false). rw t (omega (arith, nat_abs_off (conductance_of seed m i j), conductance_small seed m i j)))
          (bool? (eqb i j))

      pub whole_small : (e : ℕ) → e < entries (pattern_of m) → nat_abs (whole_at seed m e) ≤ 32769
      whole_small e h = rw (whole_is e h) (entry_small (row_of (pattern_of m) e) (column_of (pattern_of m) e))

      -- Sums of small numbers.
      sizes_small : (n b : ℕ) (z : ℕ → ℤ) → ((e : ℕ) → e < n → nat_abs (z e) ≤ b) → sizes n z ≤ n * b
      unfolding sizes
      sizes_small zero b z h = omega arith
      sizes_small (suc n) b z h = omega (arith, sizes_small n b z (λ e l. h e (omega arith)), h n (omega arith), suc-mul n b)

      -- There are at most 33 entries to a row.
      starts_small : (i : ℕ) → row_start m i ≤ 33 * i
      unfolding row_start sum_to columns_in
      starts_small zero = omega arith
      starts_small (suc i) = omega (arith, starts_small i, length-append (m.behind i) (i ∷ m.ahead i), lean.behind i, lean.ahead i)

      -- Each value is its whole number as a float.
      pub value_is : (e : ℕ) → e < entries (pattern_of m) → at (values_of seed m) e ≡ of_int binary64 (whole_at seed m e)
      unfolding values_of wholes_of
      value_is e h =
          let lw : length (wholes_of seed m) ≡ row_start m m.cells = length_joined (wholes_in seed m) m.cells ∙ starts_alike seed m m.cells in
          let lm : length (map (of_int binary64) (wholes_of seed m)) ≡ length (wholes_of seed m) = length-map (wholes_of seed m) (of_int binary64) in
          let b : e < length (map (of_int binary64) (wholes_of seed m)) = omega (arith, entries_are neat) in
          get_d_in (map (of_int binary64) (wholes_of seed m)) e nan (of_int binary64 (pos 0)) b ∙ get_or-map (of_int binary64) (wholes_of seed m) e (pos 0)

      -- There are at most 33 × 65,536 entries.
      pub entries_small : entries (pattern_of m) ≤ 2162688
      entries_small = omega (arith, entries_are neat, starts_small m.cells, lean.few)

      -- The values are whole, mirrors are equal, and absolute values sum to at most 2^53: the Galerkin theorem speaks of every level.
      pub load_whole : WholeValues (pattern_of m) (values_of seed m) (whole_at seed m)
      load_whole = record {
        whole = λ e h.
            subst (λ (x : Float). Whole x (whole_at seed m e)) (sym (value_is e h)) (of_int_whole (whole_at seed m e) (omega (arith, whole_small e h)));
        symmetric = λ e d h l row column.
            whole_is d l ∙ rw (row, column) (entry_both (column_of (pattern_of m) e) (row_of (pattern_of m) e)) ∙ sym (whole_is e h);
        small = omega (arith, sizes_small (entries (pattern_of m)) 32769 (whole_at seed m) whole_small, entries_small);
      }

-- ---- the box

-- 2^k
unfoldable double : ℕ → ℕ
double zero = 1
double (suc k) = double k + double k

double_mono : (j k : ℕ) → j ≤ k → double j ≤ double k
unfolding double
double_mono j zero h = let e : j ≡ 0 = omega arith in rw e (omega arith)
double_mono j (suc k) h = ⊎_elim
    (λ (w : suc k ≤ j). let e : j ≡ suc k = omega arith in rw e (omega arith))
    (λ (w : j < suc k). omega (arith, double_mono j k (omega arith)))
    (le_or_lt (suc k) j)

few_doubles : (k : ℕ) → double k ≤ 65536 → k ≤ 16
unfolding double
few_doubles k h = ⊎_elim
    (λ (w : k ≤ 16). w)
    (λ (w : 16 < k). let b : double 17 ≤ double k = double_mono 17 k (omega arith) in let v : double 17 ≡ 131072 = refl in absurd (omega arith))
    (le_or_lt k 16)

-- Twice as many cells for each axis with a face.
twice : (e c k : ℕ) → 2 ≤ e → double k ≤ c → double (suc k) ≤ e * c
unfolding double
twice (suc (suc e)) c k h l = omega (arith, suc-mul (suc e) c, suc-mul e c)
twice (suc zero) c k h l = absurd (omega arith)
twice zero c k h l = absurd (omega arith)

once : (e c k : ℕ) → 0 < e → double k ≤ c → double k ≤ e * c
once (suc e) c k h l = omega (arith, suc-mul e c)
once zero c k h l = absurd (omega arith)

ahead_few : (es : List ℕ) (s i : ℕ) → all_positive es ≡ true → 0 < s → double (length (ahead_of (axes_from s es) i)) ≤ cells_of es
unfolding ahead_of axes_from all_positive cells_of double
ahead_few [] s i p h = omega arith
ahead_few (e ∷ es) s i p h =
    let pe : 0 < e = ltb-true 0 e (both_l (ltb 0 e) (all_positive es) p) in
    let rest = ahead_few es (s * e) i (both_r (ltb 0 e) (all_positive es) p) (mul-pos h pe) in
    let a : Axis = record { stride = s; extent = e } in
    ⊎_elim
    (λ (t : has_ahead a i ≡ true). rw t (twice e (cells_of es) (length (ahead_of (axes_from (s * e) es) i)) (ahead_two s e h i t) rest))
    (λ (t : has_ahead a i ≡ false). rw t (once e (cells_of es) (length (ahead_of (axes_from (s * e) es) i)) pe rest))
    (bool? (has_ahead a i))

behind_few : (es : List ℕ) (s i : ℕ) → all_positive es ≡ true → 0 < s → double (length (behind_of (axes_from s es) i)) ≤ cells_of es
unfolding behind_of axes_from all_positive cells_of double
behind_few [] s i p h = omega arith
behind_few (e ∷ es) s i p h =
    let pe : 0 < e = ltb-true 0 e (both_l (ltb 0 e) (all_positive es) p) in
    let rest = behind_few es (s * e) i (both_r (ltb 0 e) (all_positive es) p) (mul-pos h pe) in
    let a : Axis = record { stride = s; extent = e } in
    let l = behind_of (axes_from (s * e) es) i in
    ⊎_elim
    (λ (t : has_behind a i ≡ true).
    let n : length (l ++ ((i - s) ∷ [])) ≡ suc (length l) = length-append l ((i - s) ∷ []) ∙ omega arith in
    rw (t, n) (twice e (cells_of es) (length l) (behind_two s e h i pe t) rest))
    (λ (t : has_behind a i ≡ false).
    let n : length (l ++ []) ≡ length l = length-append l [] ∙ omega arith in
    rw (t, n) (once e (cells_of es) (length l) pe rest))
    (bool? (has_behind a i))

-- A box of at most 65,536 cells has at most 16 faces ahead of a cell and 16 behind.
pub box_lean : (es : List ℕ) → extents_ok es ≡ true → Lean (box es)
unfolding extents_ok
box_lean es h =
    let p = both_l (all_positive es) (leb (cells_of es) 65536) h in
    let c = leb-true (cells_of es) 65536 (both_r (all_positive es) (leb (cells_of es) 65536) h) in
    record {
      few = c;
      behind = λ i. few_doubles (length (behind_of (axes_from 1 es) i)) (omega (arith, behind_few es 1 i p (omega arith)));
      ahead = λ i. few_doubles (length (ahead_of (axes_from 1 es) i)) (omega (arith, ahead_few es 1 i p (omega arith)));
    }

-- Every load, of any number of extents of at most 65,536 cells together.
pub box_whole : (seed : ℕ) (es : List ℕ) → extents_ok es ≡ true → WholeValues (pattern_of (box es)) (values_of seed (box es)) (whole_at seed (box es))
unfolding extents_ok
box_whole seed es h = load_whole seed (box es) (box_neat es (both_l (all_positive es) (leb (cells_of es) 65536) h)) (box_lean es h)
