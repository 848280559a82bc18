-- Laws of the Galerkin product: it is the sum over the entries between two aggregates, and symmetric where the matrix is.
-- Assumes nothing.
use mathlib.Core.Path.{◌≡◌, sym, ap, ◌∙◌}
use mathlib.Core.Bool.{Bool, true, false, cond}
use Prim.Native.Nat.{ℕ, suc, ◌<◌}
use native.Mathlib.Nat.{one-mul, mul-one, zero-mul, mul-zero}
use lib.Dec.{eqb}
use lib.IntN.{ℤ, pos, negsuc, neg_ℤ, ◌*ℤ◌}
use Rattle.galerkin.specs.Product.{Σℤ, when, transfer, dense, galerkin_product}
use Rattle.galerkin.proofs.exact.Sums.{Σ-same, Σ-swap, Σ-when, Σ-one, Σ-mirror, when_comm}

one_times : (z : ℤ) → pos 1 *ℤ z ≡ z
one_times (pos n) = ap pos (one-mul n)
one_times (negsuc n) = ap (λ (x : ℕ). neg_ℤ (pos x)) (one-mul (suc n))

times_one : (z : ℤ) → z *ℤ pos 1 ≡ z
times_one (pos n) = ap pos (mul-one n)
times_one (negsuc n) = ap (λ (x : ℕ). neg_ℤ (pos x)) (mul-one (suc n))

zero_times : (z : ℤ) → pos 0 *ℤ z ≡ pos 0
zero_times (pos n) = ap pos (zero-mul n)
zero_times (negsuc n) = ap (λ (x : ℕ). neg_ℤ (pos x)) (zero-mul (suc n))

times_zero : (z : ℤ) → z *ℤ pos 0 ≡ pos 0
times_zero (pos n) = ap pos (mul-zero n)
times_zero (negsuc n) = ap (λ (x : ℕ). neg_ℤ (pos x)) (mul-zero (suc n))

left_when : (b : Bool) (z : ℤ) → cond b (pos 1) (pos 0) *ℤ z ≡ when b z
left_when true z = one_times z
left_when false z = zero_times z

right_when : (b : Bool) (z : ℤ) → z *ℤ cond b (pos 1) (pos 0) ≡ when b z
right_when true z = times_one z
right_when false z = times_zero z

-- the sum over the entries with a row in c and a column in d
unfoldable pub entry_sum : ℕ → (ℕ → ℕ) → (ℕ → ℕ) → (ℕ → ℕ) → (ℕ → ℤ) → ℕ → ℕ → ℤ
entry_sum m map row column z c d = Σℤ m (λ e. when (eqb (map (row e)) c) (when (eqb (map (column e)) d) (z e)))

module _ (n m : ℕ) (map row column : ℕ → ℕ) (z : ℕ → ℤ) (rows : (e : ℕ) → e < m → row e < n) (cols : (e : ℕ) → e < m → column e < n) where
  module _ (c d : ℕ) where
    -- entry e as a term of the double sum at (i, j)
    term : ℕ → ℕ → ℕ → ℤ
    term i j e = when (eqb (row e) i) (when (eqb (map i) c) (when (eqb (column e) j) (when (eqb (map j) d) (z e))))

    -- its conditions in that order
    shuffle : (i j e : ℕ) → when (eqb (map i) c) (when (eqb (map j) d) (when (eqb (row e) i) (when (eqb (column e) j) (z e)))) ≡ term i j e
    unfolding term
    shuffle i j e =
        ap (when (eqb (map i) c)) (when_comm (eqb (map j) d) (eqb (row e) i) (when (eqb (column e) j) (z e)))
        ∙ when_comm (eqb (map i) c) (eqb (row e) i) (when (eqb (map j) d) (when (eqb (column e) j) (z e)))
        ∙ ap (λ (x : ℤ). when (eqb (row e) i) (when (eqb (map i) c) x)) (when_comm (eqb (map j) d) (eqb (column e) j) (z e))

    -- a term of the product, spread over the entries
    spread : (i j : ℕ) → transfer map i c *ℤ (dense m row column z i j *ℤ transfer map j d) ≡ Σℤ m (λ e. term i j e)
    unfolding dense transfer
    spread i j =
        let g : ℕ → ℤ = λ e. when (eqb (row e) i) (when (eqb (column e) j) (z e)) in
        left_when (eqb (map i) c) (Σℤ m g *ℤ cond (eqb (map j) d) (pos 1) (pos 0))
        ∙ ap (when (eqb (map i) c)) (right_when (eqb (map j) d) (Σℤ m g) ∙ sym (Σ-when m (eqb (map j) d) g))
        ∙ sym (Σ-when m (eqb (map i) c) (λ e. when (eqb (map j) d) (g e)))
        ∙ Σ-same m (λ e. when (eqb (map i) c) (when (eqb (map j) d) (g e))) (λ e. term i j e) (λ e _. shuffle i j e)

    -- summed over the columns, and then over the rows, an entry is left once
    over_j : (i e : ℕ) → e < m → Σℤ n (λ j. term i j e) ≡ when (eqb (row e) i) (when (eqb (map i) c) (when (eqb (map (column e)) d) (z e)))
    unfolding term
    over_j i e h =
        let g : ℕ → ℤ = λ j. when (eqb (column e) j) (when (eqb (map j) d) (z e)) in
        Σ-when n (eqb (row e) i) (λ j. when (eqb (map i) c) (g j))
        ∙ ap (when (eqb (row e) i)) (Σ-when n (eqb (map i) c) g ∙ ap (when (eqb (map i) c)) (Σ-one n (column e) (λ j. when (eqb (map j) d) (z e)) (cols e h)))

    over_i : (e : ℕ) → e < m → Σℤ n (λ i. Σℤ n (λ j. term i j e)) ≡ when (eqb (map (row e)) c) (when (eqb (map (column e)) d) (z e))
    over_i e h =
        Σ-same n (λ i. Σℤ n (λ j. term i j e)) (λ i. when (eqb (row e) i) (when (eqb (map i) c) (when (eqb (map (column e)) d) (z e)))) (λ i _. over_j i e h)
        ∙ Σ-one n (row e) (λ i. when (eqb (map i) c) (when (eqb (map (column e)) d) (z e))) (rows e h)

    -- The Galerkin product is the sum over the entries.
    pub product_is : galerkin_product n map (dense m row column z) c d ≡ entry_sum m map row column z c d
    unfolding galerkin_product entry_sum
    product_is =
        Σ-same n (λ i. Σℤ n (λ j. transfer map i c *ℤ (dense m row column z i j *ℤ transfer map j d))) (λ i. Σℤ m (λ e. Σℤ n (λ j. term i j e)))
        (λ i _. Σ-same n (λ j. transfer map i c *ℤ (dense m row column z i j *ℤ transfer map j d)) (λ j. Σℤ m (λ e. term i j e)) (λ j _. spread i j)
        ∙ Σ-swap n m (λ j e. term i j e))
        ∙ Σ-swap n m (λ i e. Σℤ n (λ j. term i j e))
        ∙ Σ-same m (λ e. Σℤ n (λ i. Σℤ n (λ j. term i j e))) (λ e. when (eqb (map (row e)) c) (when (eqb (map (column e)) d) (z e))) over_i

-- Of a symmetric matrix it is symmetric.
pub product_mirror : (n : ℕ) (map : ℕ → ℕ) (A : ℕ → ℕ → ℤ) → ((i j : ℕ) → A i j ≡ A j i) → (c d : ℕ) → galerkin_product n map A c d ≡ galerkin_product n map A d c
unfolding galerkin_product transfer
product_mirror n map A s c d =
    Σ-swap n n (λ i j. transfer map i c *ℤ (A i j *ℤ transfer map j d))
    ∙ Σ-same n (λ i. Σℤ n (λ j. transfer map j c *ℤ (A j i *ℤ transfer map i d))) (λ i. Σℤ n (λ j. transfer map i d *ℤ (A i j *ℤ transfer map j c)))
    (λ i _. Σ-same n (λ j. transfer map j c *ℤ (A j i *ℤ transfer map i d)) (λ j. transfer map i d *ℤ (A i j *ℤ transfer map j c)) (λ j _.
    ap (λ (x : ℤ). transfer map j c *ℤ (x *ℤ transfer map i d)) (s j i) ∙ turn (eqb (map j) c) (eqb (map i) d) (A i j)))
  where
    turn : (a b : Bool) (x : ℤ) → cond a (pos 1) (pos 0) *ℤ (x *ℤ cond b (pos 1) (pos 0)) ≡ cond b (pos 1) (pos 0) *ℤ (x *ℤ cond a (pos 1) (pos 0))
    turn a b x =
        left_when a (x *ℤ cond b (pos 1) (pos 0)) ∙ ap (when a) (right_when b x) ∙ when_comm a b x
        ∙ sym (left_when b (x *ℤ cond a (pos 1) (pos 0)) ∙ ap (when b) (right_when a x))

-- ---- a symmetric matrix, by its entries

-- s takes each of m entries to its mirror, which has the same value, and back.
pub record MirrorOf (m : ℕ) (row column : ℕ → ℕ) (z : ℕ → ℤ) (s : ℕ → ℕ) : Type 0 where
  pub inside : (e : ℕ) → e < m → s e < m
  pub back : (e : ℕ) → e < m → s (s e) ≡ e
  pub rows : (e : ℕ) → e < m → row (s e) ≡ column e
  pub cols : (e : ℕ) → e < m → column (s e) ≡ row e
  pub values : (e : ℕ) → e < m → z (s e) ≡ z e

-- A matrix whose entries equal their mirrors is symmetric.
pub dense_mirror : (m : ℕ) (row column : ℕ → ℕ) (z : ℕ → ℤ) (s : ℕ → ℕ) → MirrorOf m row column z s → (i j : ℕ) → dense m row column z i j ≡ dense m row column z j i
unfolding dense
dense_mirror m row column z s k i j =
    sym (Σ-mirror m s k.inside k.back (λ e. when (eqb (row e) i) (when (eqb (column e) j) (z e))))
    ∙ Σ-same m (λ e. when (eqb (row (s e)) i) (when (eqb (column (s e)) j) (z (s e)))) (λ e. when (eqb (row e) j) (when (eqb (column e) i) (z e)))
    (λ e h. rw (k.rows e h, k.cols e h, k.values e h) (when_comm (eqb (column e) i) (eqb (row e) j) (z e)))
