-- Every row of a load sums to 1, over the whole numbers. Assumes nothing.
use Rattle.std.proofs.Common.{◌≡◌, ℕ, zero, suc, ◌+◌, ◌<◌, true, eqb, leb, List, [], ◌∷◌, ◌++◌, map, length, get_or, ℤ, pos, ◌+ℤ◌, neg_ℤ, sym, refl, ap, ◌∙◌, ap₂, ⊎_elim, add-zero, add-suc, arith, ne_eqb}
use mathlib.Core.Path.{fun_ext}
use lib.IntN.{+ℤ_idl, +ℤ_idr, +ℤ_assoc, +ℤ_comm, +ℤ-neg_ℤ_cancel, neg_ℤ-+ℤ, pos-+ℤ-pos}
use Rattle.store.proofs.store.Each.{both_l}
use Rattle.galerkin.specs.Product.{Σℤ, when}
use Rattle.galerkin.proofs.exact.Sums.{Σ-same, Σ-when, Σ-one}
use Rattle.pattern.specs.Pattern.{sum_to, entries, row_of}
use Rattle.pattern.proofs.pattern.Number.{same?}
use Rattle.load.specs.Box.{Grid, cells_of, box, all_positive, extents_ok}
use Rattle.load.specs.Load.{joined, total, conductance_of, columns_in, own_of, off_of, wholes_in, row_start, pattern_of, wholes_of}
use Rattle.load.specs.Theorem.{Neat, whole_at}
use Rattle.load.proofs.Lists.{start_in, joined_at}
use Rattle.load.proofs.Mirrors.{length_wholes, starts_alike}
use Rattle.load.proofs.Neat.{box_neat}
use Rattle.load.proofs.Pattern.{entries_are, row_at}

-- ---- sums

-- a list of whole numbers, added up
unfoldable sum_list : List ℤ → ℤ
sum_list [] = pos 0
sum_list (x ∷ l) = x +ℤ sum_list l

-- A sum goes on behind its first terms.
Σ-on : (a b : ℕ) (g : ℕ → ℤ) → Σℤ (a + b) g ≡ Σℤ a g +ℤ Σℤ b (λ k. g (a + k))
unfolding Σℤ
Σ-on a zero g = rw (add-zero a) (sym (+ℤ_idr (Σℤ a g)))
Σ-on a (suc b) g = rw (add-suc a b) (ap (λ (z : ℤ). z +ℤ g (a + b)) (Σ-on a b g) ∙ +ℤ_assoc (Σℤ a g) (Σℤ b (λ k. g (a + k))) (g (a + b)))

-- The terms of a list.
Σ-list : (l : List ℤ) → Σℤ (length l) (λ k. get_or l k (pos 0)) ≡ sum_list l
unfolding Σℤ sum_list
Σ-list [] = refl
Σ-list (x ∷ l) =
    let n : suc (length l) ≡ 1 + length l = omega arith in
    ap (λ (j : ℕ). Σℤ j (λ k. get_or (x ∷ l) k (pos 0))) n ∙ Σ-on 1 (length l) (λ k. get_or (x ∷ l) k (pos 0)) ∙ ap₂ ◌+ℤ◌ (+ℤ_idl x) (ap (Σℤ (length l)) shifted ∙ Σ-list l)
  where
    one_add : (k : ℕ) → 1 + k ≡ suc k
    one_add k = omega arith

    shifted : ◌≡◌ {A = ℕ → ℤ} (λ k. get_or (x ∷ l) (1 + k) (pos 0)) (λ k. get_or l k (pos 0))
    shifted = fun_ext (λ k. rw (one_add k) refl)

-- The terms row by row.
Σ-rows : {A : Type 0} (f : ℕ → List A) (n : ℕ) (g : ℕ → ℤ) → Σℤ (start_in f n) g ≡ Σℤ n (λ r. Σℤ (length (f r)) (λ k. g (start_in f r + k)))
unfolding Σℤ sum_to
Σ-rows f zero g = refl
Σ-rows f (suc n) g = Σ-on (start_in f n) (length (f n)) g ∙ ap (λ (z : ℤ). z +ℤ Σℤ (length (f n)) (λ k. g (start_in f n + k))) (Σ-rows f n g)

sum_on : (l r : List ℤ) → sum_list (l ++ r) ≡ sum_list l +ℤ sum_list r
unfolding sum_list
sum_on [] r = sym (+ℤ_idl (sum_list r))
sum_on (x ∷ l) r = ap (λ (z : ℤ). x +ℤ z) (sum_on l r) ∙ sym (+ℤ_assoc x (sum_list l) (sum_list r))

module _ (seed : ℕ) (m : Grid) where
  -- Off the diagonal a row sums to less its conductances,
  sum_off : (i : ℕ) (l : List ℕ) → sum_list (map (off_of seed m i) l) ≡ neg_ℤ (pos (total (conductance_of seed m i) l))
  unfolding sum_list total
  sum_off i [] = refl
  sum_off i (x ∷ l) =
      ap (λ (z : ℤ). off_of seed m i x +ℤ z) (sum_off i l)
      ∙ sym (neg_ℤ-+ℤ (pos (conductance_of seed m i x)) (pos (total (conductance_of seed m i) l)))
      ∙ ap neg_ℤ (pos-+ℤ-pos (conductance_of seed m i x) (total (conductance_of seed m i) l))

  -- and whole to 1.
  row_one : (i : ℕ) → sum_list (wholes_in seed m i) ≡ pos 1
  unfolding wholes_in own_of sum_list
  row_one i =
      let c = conductance_of seed m i in
      let b = total c (m.behind i) in
      let a = total c (m.ahead i) in
      let split : pos (1 + b + a) ≡ (pos 1 +ℤ pos b) +ℤ pos a = sym (ap (λ (z : ℤ). z +ℤ pos a) (pos-+ℤ-pos 1 b) ∙ pos-+ℤ-pos (1 + b) a) in
      let right : pos (1 + b + a) +ℤ neg_ℤ (pos a) ≡ pos 1 +ℤ pos b = ap (λ (z : ℤ). z +ℤ neg_ℤ (pos a)) split ∙ +ℤ-neg_ℤ_cancel (pos 1 +ℤ pos b) (pos a) in
      sum_on (map (off_of seed m i) (m.behind i)) (pos (1 + b + a) ∷ map (off_of seed m i) (m.ahead i))
      ∙ ap₂ ◌+ℤ◌ (sum_off i (m.behind i)) (ap (λ (z : ℤ). pos (1 + b + a) +ℤ z) (sum_off i (m.ahead i)) ∙ right)
      ∙ +ℤ_comm (neg_ℤ (pos b)) (pos 1 +ℤ pos b)
      ∙ +ℤ-neg_ℤ_cancel (pos 1) (pos b)

  module _ (neat : Neat m) where
    eqb_both : (i j : ℕ) → eqb i j ≡ eqb j i
    eqb_both i j = ⊎_elim
        (λ (w : (i ≡ j) × (eqb i j ≡ true)). rw w.0 refl)
        (λ (w : (i ≡ j → ⊥) × (eqb i j ≡ _)). w.1 ∙ sym (ne_eqb j i (λ e. w.0 (sym e))))
        (same? i j)

    -- The entries of row r, each asked whether it stands in row i.
    in_row : (i r : ℕ) → r < m.cells
        → Σℤ (length (columns_in m r)) (λ k. when (eqb (row_of (pattern_of m) (row_start m r + k)) i) (whole_at seed m (row_start m r + k))) ≡ when (eqb i r) (sum_list (wholes_in seed m r))
    unfolding wholes_of
    in_row i r h =
        let n = length_wholes seed m r in
        Σ-same (length (columns_in m r)) (λ k. when (eqb (row_of (pattern_of m) (row_start m r + k)) i) (whole_at seed m (row_start m r + k)))
        (λ k. when (eqb i r) (get_or (wholes_in seed m r) k (pos 0)))
        (λ k l. ap₂ when (ap (λ (x : ℕ). eqb x i) (row_at neat r k h l) ∙ eqb_both r i)
        (ap (λ (s : ℕ). get_or (joined (wholes_in seed m) m.cells) (s + k) (pos 0)) (sym (starts_alike seed m r))
        ∙ joined_at (wholes_in seed m) m.cells r k (pos 0) h (omega arith)))
        ∙ Σ-when (length (columns_in m r)) (eqb i r) (λ k. get_or (wholes_in seed m r) k (pos 0))
        ∙ ap (λ (z : ℤ). when (eqb i r) z) (ap (λ (x : ℕ). Σℤ x (λ k. get_or (wholes_in seed m r) k (pos 0))) (sym n) ∙ Σ-list (wholes_in seed m r))

    -- The entries of each row sum to 1.
    pub load_sums : (i : ℕ) → i < m.cells → Σℤ (entries (pattern_of m)) (λ e. when (eqb (row_of (pattern_of m) e) i) (whole_at seed m e)) ≡ pos 1
    unfolding row_start
    load_sums i h =
        let g : ℕ → ℤ = λ e. when (eqb (row_of (pattern_of m) e) i) (whole_at seed m e) in
        ap (λ (n : ℕ). Σℤ n g) (entries_are neat)
        ∙ Σ-rows (columns_in m) m.cells g
        ∙ Σ-same m.cells (λ r. Σℤ (length (columns_in m r)) (λ k. g (start_in (columns_in m) r + k))) (λ r. when (eqb i r) (sum_list (wholes_in seed m r))) (in_row i)
        ∙ Σ-one m.cells i (λ r. sum_list (wholes_in seed m r)) h
        ∙ row_one i

-- Every load, of any number of extents of at most 65,536 cells together.
pub box_sums : (seed : ℕ) (es : List ℕ) → extents_ok es ≡ true → (i : ℕ) → i < cells_of es
    → Σℤ (entries (pattern_of (box es))) (λ e. when (eqb (row_of (pattern_of (box es)) e) i) (whole_at seed (box es) e)) ≡ pos 1
unfolding extents_ok
box_sums seed es h i l = load_sums seed (box es) (box_neat es (both_l (all_positive es) (leb (cells_of es) 65536) h)) i l
