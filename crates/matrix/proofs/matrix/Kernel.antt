-- The loops over the store compute the definitions over lists.
-- Assumes nothing.
use mathlib.Core.Path.{◌≡◌, refl, ap, ◌∙◌}
use mathlib.Core.List.{List}
use Prim.Native.Nat.{ℕ, ◌+◌, ◌≤◌, ◌<◌}
use native.Mathlib.Nat.{add_assoc}
use native.Mathlib.Omega.{arith}
use lib.ListN.{length, set, length-set}
use lib.Ieee.{Float, nan}
use Rattle.float.specs.Float.{add64, sub64, mul64}
use Rattle.store.specs.Loop.{for}
use Rattle.store.specs.Region.{at, idx, part, splice, Wrote, Kept}
use Rattle.store.proofs.store.Loop.{for_map, for_keeps}
use Rattle.store.proofs.store.Region.{get_d_part, get_d_splice_in, get_d_splice_below, set_splice, wrote, kept_part}
use Rattle.store.proofs.store.Vector.{length_tab, tab_same, for_each}
use Rattle.matrix.specs.declared.matrix.SymmetricMatrix.{SymmetricMatrix}
use Rattle.matrix.specs.Contract.{KernelOk}
use Rattle.matrix.specs.Kernel.{Kernel, kernel_at, Owned, spread_face, spread_row, spread_of, apply_of, residual_of, sum_face, sum_row, row_sums_of}
use Rattle.matrix.specs.Turns.{VectorsOk, product_turn, less_turn, face_turn, row_turn, sum_turn, sum_row_turn, Spread, Summed}

-- ---- lengths

module _ (op : Float → Float → Float) (k : Kernel) (x : List Float) where
  length_face : (own : Float) (e : ℕ) (s : Owned) → length (spread_face op k x own e s).vector ≡ length s.vector
  unfolding spread_face
  length_face own e s = simp length-set

  length_row : (row : ℕ) (v : List Float) → length (spread_row op k x row v) ≡ length v
  unfolding spread_row
  length_row row v =
      simp length-set
      (for_keeps (λ (s : Owned). length s.vector ≡ length v) (spread_face op k x (at x row)) (idx k.offsets row) (idx k.offsets (row + 1))
      (λ e _ _ s q. length_face (at x row) e s ∙ q) (record { vector = v; owner = at v row }) refl)

  -- The faces leave the vector's length.
  pub length_spread : (v : List Float) → length (spread_of op k x v) ≡ length v
  unfolding spread_of
  length_spread v = for_keeps (λ (u : List Float). length u ≡ length v) _ 0 k.rows (λ row _ _ u q. length_row row u ∙ q) v refl

-- A product has an element for each row.
pub length_apply : (k : Kernel) (x : List Float) → length (apply_of k x) ≡ k.rows
unfolding apply_of
length_apply k x = length_spread add64 k x _ ∙ length_tab _ k.rows

-- A residual has an element for each row.
pub length_residual : (k : Kernel) (x rhs : List Float) → length (residual_of k x rhs) ≡ k.rows
unfolding residual_of
length_residual k x rhs = length_spread sub64 k x _ ∙ length_tab _ k.rows

module _ (k : Kernel) where
  length_sum_face : (row e : ℕ) (v : List Float) → length (sum_face k row e v) ≡ length v
  unfolding sum_face
  length_sum_face row e v = simp length-set

  length_sum_row : (row : ℕ) (v : List Float) → length (sum_row k row v) ≡ length v
  unfolding sum_row
  length_sum_row row v = for_keeps (λ (u : List Float). length u ≡ length v) _ _ _ (λ e _ _ u q. length_sum_face row e u ∙ q) v refl

  -- There are as many row sums as diagonal elements.
  pub length_row_sums : length (row_sums_of k) ≡ length k.diagonal
  unfolding row_sums_of sum_row
  length_row_sums =
      for_keeps (λ (u : List Float). length u ≡ length k.diagonal) _ 0 k.rows (λ row _ _ u q. length_sum_row row u ∙ q) k.diagonal refl

-- ---- the faces

module _ (op : Float → Float → Float) {w : List ℕ} (F : List Float) {s : SymmetricMatrix} {low : ℕ} (x out : ℕ) (ok : KernelOk w low s)
    (above : low ≤ out) (xs : x + s.rows ≤ out) (outs : out + s.rows ≤ length F) where
  abbrev n : ℕ
  n = s.rows

  abbrev here : Kernel
  here = kernel_at s w F

  over : List Float → List Float
  over v = splice out v F

  over_owned : Owned → Owned
  over_owned a = record { vector = splice out a.vector F; owner = a.owner }

  abbrev turn : Float → ℕ → Owned → Owned
  turn own = face_turn op w s x out own

  abbrev face : Float → ℕ → Owned → Owned
  face own = spread_face op here (part x n F) own

  face_turn_lem : (own : Float) (e : ℕ) → e < idx w (s.offsets + n) → (a : Owned) → length a.vector ≡ n
      → turn own e (over_owned a) ≡ over_owned (face own e a)
  unfolding face_turn over_owned spread_face kernel_at
  face_turn_lem own e h a l =
      let j : idx w (s.neighbors + e) < n = ok.near e h in
      let c : s.coefficients + e < out = omega arith in
      let b : x + idx w (s.neighbors + e) < out = omega arith in
      let d : idx w (s.neighbors + e) < length a.vector = omega arith in
      let i : out + idx w (s.neighbors + e) < length F = omega arith in
      simp (get_d_part, get_d_splice_below, get_d_splice_in, set_splice)

  faces_of_lem : (own : Float) (lo hi : ℕ) → hi ≤ idx w (s.offsets + n) → (a : Owned) → length a.vector ≡ n
      → (length (for (face own) lo hi a).vector ≡ n) × (for (turn own) lo hi (over_owned a) ≡ over_owned (for (face own) lo hi a))
  faces_of_lem own lo hi b a l =
      for_map over_owned (λ (t : Owned). length t.vector ≡ n) (face own) (turn own) lo hi
      (λ e _ h t q. (length_face op here (part x n F) own e t ∙ q, face_turn_lem own e (omega arith) t q))
      a l

  row_turn_lem : (k : ℕ) → k < n → (v : List Float) → length v ≡ n
      → row_turn op w s x out k (over v) ≡ over (spread_row op here (part x n F) k v)
  unfolding row_turn spread_row over over_owned kernel_at
  row_turn_lem k h v l =
      let a : x + k < out = omega arith in
      let d : k < length v = omega arith in
      let i : out + k < length F = omega arith in
      let k₀ : k < n + 1 = omega arith in
      let k₁ : k + 1 < n + 1 = omega arith in
      let m = faces_of_lem (at F (x + k)) (idx w (s.offsets + k)) (idx w (s.offsets + (k + 1))) (simp add_assoc at (ok.falls k h))
      (record { vector = v; owner = at v k }) l in
      let t : k < length (for (face (at F (x + k))) (idx w (s.offsets + k)) (idx w (s.offsets + (k + 1))) (record { vector = v; owner = at v k })).vector =
      omega (arith, m.0) in
      simp (get_d_part, get_d_splice_below, get_d_splice_in, add_assoc, m.1, set_splice)

  -- The loop over the rows spreads the vector at `out`.
  pub spread_law : (v : List Float) → length v ≡ n
      → for (row_turn op w s x out) 0 n (splice out v F)
      ≡ splice out (spread_of op here (part x n F) v) F
  unfolding spread_of over kernel_at
  spread_law v l =
      (for_map over (λ (u : List Float). length u ≡ n) (spread_row op here (part x n F))
      (row_turn op w s x out) 0 n
      (λ k _ h u q. (length_row op here (part x n F) k u ∙ q, row_turn_lem k h u q)) v l).1

module _ {w : List ℕ} (F : List Float) {s : SymmetricMatrix} (sums : ℕ) (ok : KernelOk w sums s) (outs : sums + s.rows ≤ length F) where
  sum_turn_lem : (row : ℕ) → row < s.rows → (e : ℕ) → e < idx w (s.offsets + s.rows) → (v : List Float) → length v ≡ s.rows
      → sum_turn w s sums row e (splice sums v F) ≡ splice sums (sum_face (kernel_at s w F) row e v) F
  unfolding sum_turn sum_face kernel_at
  sum_turn_lem row r e h v l =
      let j : idx w (s.neighbors + e) < s.rows = ok.near e h in
      let c : s.coefficients + e < sums = omega arith in
      let b : row < length v = omega arith in
      let i : sums + row < length F = omega arith in
      let i' : sums + idx w (s.neighbors + e) < length F = omega arith in
      let d : idx w (s.neighbors + e) < length (set v row (add64 (at v row) (at F (s.coefficients + e)))) = simp length-set (omega arith) in
      simp (get_d_part, get_d_splice_below, get_d_splice_in, set_splice)

  sum_row_turn_lem : (row : ℕ) → row < s.rows → (v : List Float) → length v ≡ s.rows
      → sum_row_turn w s sums row (splice sums v F) ≡ splice sums (sum_row (kernel_at s w F) row v) F
  unfolding sum_row_turn sum_row kernel_at
  sum_row_turn_lem row r v l =
      let r₀ : row < s.rows + 1 = omega arith in
      let r₁ : row + 1 < s.rows + 1 = omega arith in
      let m = for_map (λ (u : List Float). splice sums u F) (λ (u : List Float). length u ≡ s.rows)
      (sum_face (kernel_at s w F) row) (sum_turn w s sums row)
      (idx w (s.offsets + row)) (idx w (s.offsets + (row + 1)))
      (λ e _ h u q. let below : idx w (s.offsets + (row + 1)) ≤ idx w (s.offsets + s.rows) = simp add_assoc at (ok.falls row r) in
      (length_sum_face (kernel_at s w F) row e u ∙ q, sum_turn_lem row r e (omega arith) u q)) v l in
      simp (get_d_part, add_assoc, m.1)

  -- The loop over the rows sums them in the vector at `sums`.
  sums_law : (v : List Float) → length v ≡ s.rows
      → for (sum_row_turn w s sums) 0 s.rows (splice sums v F)
      ≡ splice sums (for (sum_row (kernel_at s w F)) 0 s.rows v) F
  sums_law v l =
      (for_map (λ (u : List Float). splice sums u F) (λ (u : List Float). length u ≡ s.rows) (sum_row (kernel_at s w F))
      (sum_row_turn w s sums) 0 s.rows
      (λ row _ h u q. (length_sum_row (kernel_at s w F) row u ∙ q, sum_row_turn_lem row h u q)) v l).1

-- ---- the ways out

-- `apply` as the code has it.
pub apply_done : {w : List ℕ} {F G H : List Float} {s : SymmetricMatrix} {x out : ℕ}
    → KernelOk w x s → x + s.rows ≤ out → out + s.rows ≤ length F
    → G ≡ for (product_turn s x out) 0 s.rows F
    → Spread add64 w s x out G H
    → Wrote out s.rows (apply_of (kernel_at s w F) (part x s.rows F)) F H
unfolding apply_of kernel_at product_turn
apply_done {w} {F} {G} {H} {s} {x} {out} ok xs outs a b =
    let n = s.rows in
    let start = for_each out n F (λ k I. mul64 (at I (s.diagonal + k)) (at I (x + k)))
    (λ k h I same. rw (same (s.diagonal + k) nan (λ q. omega arith), same (x + k) nan (λ q. omega arith))) in
    let regions = tab_same (λ k. mul64 (at F (s.diagonal + k)) (at F (x + k)))
    (λ k. mul64 (at (part s.diagonal n F) k) (at (part x n F) k)) n (λ k h. simp get_d_part) in
    wrote (b.is
    ∙ ap (for (row_turn add64 w s x out) 0 n) (a ∙ start ∙ ap (λ (v : List Float). splice out v F) regions)
    ∙ spread_law add64 F x out ok (omega arith) xs outs _ (length_tab _ n)) (length_apply (kernel_at s w F) (part x n F))

-- `residual` as the code has it.
pub residual_done : {w : List ℕ} {F G H : List Float} {s : SymmetricMatrix} {x rhs out : ℕ}
    → KernelOk w rhs s → rhs + s.rows ≤ x → x + s.rows ≤ out → out + s.rows ≤ length F
    → G ≡ for (less_turn s x rhs out) 0 s.rows F
    → Spread sub64 w s x out G H
    → Wrote out s.rows (residual_of (kernel_at s w F) (part x s.rows F) (part rhs s.rows F)) F H
unfolding residual_of kernel_at less_turn
residual_done {w} {F} {G} {H} {s} {x} {rhs} {out} ok rs xs outs a b =
    let n = s.rows in
    let start = for_each out n F (λ k I. sub64 (at I (rhs + k)) (mul64 (at I (s.diagonal + k)) (at I (x + k))))
    (λ k h I same. rw (same (rhs + k) nan (λ q. omega arith), same (s.diagonal + k) nan (λ q. omega arith), same (x + k) nan (λ q. omega arith))) in
    let regions = tab_same (λ k. sub64 (at F (rhs + k)) (mul64 (at F (s.diagonal + k)) (at F (x + k))))
    (λ k. sub64 (at (part rhs n F) k) (mul64 (at (part s.diagonal n F) k) (at (part x n F) k))) n (λ k h. simp get_d_part) in
    wrote (b.is
    ∙ ap (for (row_turn sub64 w s x out) 0 n) (a ∙ start ∙ ap (λ (v : List Float). splice out v F) regions)
    ∙ spread_law sub64 F x out ok (omega arith) xs outs _ (length_tab _ n)) (length_residual (kernel_at s w F) (part x n F) (part rhs n F))

-- `row_sums_into` as the code has it.
pub sums_done : {w : List ℕ} {F G H : List Float} {s : SymmetricMatrix} {sums : ℕ} → KernelOk w sums s → sums + s.rows ≤ length F
    → Wrote sums s.rows (part s.diagonal s.rows F) F G
    → Summed w s sums G H
    → Wrote sums s.rows (row_sums_of (kernel_at s w F)) F H
unfolding row_sums_of kernel_at sum_row
sums_done {w} {F} {G} {H} {s} {sums} ok outs c b =
    wrote (b.is
    ∙ ap (for (sum_row_turn w s sums) 0 s.rows) c.is ∙ sums_law F sums ok outs _ c.long)
    (length_row_sums (kernel_at s w F) ∙ c.long)

-- A kernel that ends below a place ends below a higher one.
pub kernel_above : {w : List ℕ} {low high : ℕ} {s : SymmetricMatrix} → KernelOk w low s → low ≤ high → KernelOk w high s
kernel_above ok h = record {
  starts = ok.starts;
  columns = ok.columns;
  own = omega (arith, ok.own);
  recip = omega (arith, ok.recip);
  faces = omega (arith, ok.faces);
  falls = ok.falls;
  near = ok.near;
}

-- What the loops over the faces require, where a vector lies above the matrix and another above that.
pub vectors_ready : {w : List ℕ} {low size size' x out : ℕ} {s : SymmetricMatrix} → KernelOk w low s → low ≤ x → x + s.rows ≤ out → out + s.rows ≤ size → size' ≡ size
    → VectorsOk w size' s x out
vectors_ready ok a b c e = record { kernel = kernel_above ok (omega arith); us = omega arith; vs = omega arith }

-- A kernel is the same where the floats below `low` are kept.
pub kernel_kept : {w : List ℕ} {F G : List Float} {s : SymmetricMatrix} {low : ℕ}
    → KernelOk w low s → Kept low F G → kernel_at s w G ≡ kernel_at s w F
unfolding kernel_at
kernel_kept {w} {F} {G} {s} ok h =
    let d : part s.diagonal s.rows G ≡ part s.diagonal s.rows F = kept_part h _ _ ok.own in
    let i : part s.inverse s.rows G ≡ part s.inverse s.rows F = kept_part h _ _ ok.recip in
    let c : part s.coefficients (idx w (s.offsets + s.rows)) G ≡ part s.coefficients (idx w (s.offsets + s.rows)) F =
    kept_part h _ _ ok.faces in
    cc
