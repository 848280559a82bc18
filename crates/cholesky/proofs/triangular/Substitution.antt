-- Forward and backward substitution: the loops over the store compute the definitions over lists.
-- Assumes nothing.
use mathlib.Core.Path.{◌≡◌, sym, ap, ◌∙◌}
use mathlib.Core.List.{List}
use Prim.Native.Nat.{ℕ, ◌+◌, ◌-◌, ◌≤◌, ◌<◌}
use native.Mathlib.Nat.{add_assoc}
use native.Mathlib.Omega.{arith}
use lib.Ieee.{Float, nan}
use lib.ListN.{length, set, length-set}
use Rattle.float.specs.Float.{sub64, mul64, div64}
use Rattle.store.specs.Loop.{for}
use Rattle.store.specs.Region.{at, part, splice, Wrote, CopyOk}
use Rattle.store.proofs.store.Loop.{for_map, for_same, Left, left_end}
use Rattle.store.proofs.store.Region.{length_part, get_d_part, get_d_splice_in, get_d_splice_below, part_splice, part_splice_below, set_splice, splice_part, wrote, wrote_at, wrote_off, wrote_again}
use Rattle.cholesky.specs.Triangle.{tri}
use Rattle.cholesky.specs.TriangleContract.{RowAt, LessOk, Less}
use Rattle.cholesky.specs.Turns.{less_of, low_term, high_term}
use Rattle.cholesky.proofs.packed.Triangles.{tri_at, UpAt, up_end}
use Rattle.cholesky.specs.TriangularFactor.{low_row, high_row, solve_factor_of}
use Rattle.cholesky.specs.TriangularContract.{SolveOk, Lowered, High, Raised}

-- a turn of `lower_solve`
unfoldable pub low_turn : ℕ → ℕ → ℕ → List Float → List Float
low_turn l x row F = set F (x + row) (div64 (for (less_of F (l + tri row) x) 0 row (at F (x + row))) (at F (l + tri row + row)))

-- a turn of `high_rest`
unfoldable pub cross_turn : List Float → ℕ → ℕ → ℕ → ℕ → Float → Float
cross_turn F l x row k value = sub64 value (mul64 (at F (l + tri k + row)) (at F (x + k)))

-- a turn of `upper_solve`: the row n - 1 - j
unfoldable pub high_turn : ℕ → ℕ → ℕ → ℕ → List Float → List Float
high_turn n l x j F =
    set F (x + (n - 1 - j))
    (div64 (for (high_term (part l (tri n) F) (n - 1 - j) (part x n F)) (n - 1 - j + 1) n (at (part x n F) (n - 1 - j))) (at F (l + tri (n - 1 - j) + (n - 1 - j))))

-- ---- the code's turns

-- A row below n lies in the triangle.
pub up_row : {n row start : ℕ} → UpAt n row start → row < n → start + row + 1 ≤ tri n
up_row u h = omega (arith, u.fits)

-- What `less` requires in a row of the forward substitution.
pub low_ok : {size size' n l x row start : ℕ} → SolveOk size n l x → size' ≡ size → UpAt n row start → row < n → LessOk size' (l + start) x row
low_ok ok e u h = record { ps = omega arith; qs = omega arith }

-- A row of the forward substitution.
pub low_on : (F : List Float) (n l x row start : ℕ) (value : Float) → UpAt n row start → Less F (l + start) x row (at F (x + row)) value
    → set F (x + row) (div64 value (at F (l + start + row))) ≡ low_turn l x row F
unfolding low_turn
low_on F n l x row start value u e = rw (e.is, u.starts)

-- A product under the diagonal.
pub cross_on : (F : List Float) (n l x row k own : ℕ) (value : Float) → UpAt n k own
    → sub64 value (mul64 (at F (l + own + row)) (at F (x + k))) ≡ cross_turn F l x row k value
unfolding cross_turn
cross_on F n l x row k own value u = rw u.starts

-- A row of the backward substitution.
pub high_on : (F : List Float) (n l x row start j : ℕ) (value : Float) → RowAt n row start → row ≡ n - 1 - j → High F n l x row value
    → set F (x + row) (div64 value (at F (l + start + row))) ≡ high_turn n l x j F
unfolding high_turn
high_on F n l x row start j value a e h = rw (h.is, a.starts, e)

-- The facts hold in a store of the same size.
pub solve_resize : {size size' n l x : ℕ} → SolveOk size n l x → size' ≡ size → SolveOk size' n l x
solve_resize ok e = rw e ok

-- ---- the laws

module _ (F : List Float) {n l x : ℕ} (ok : SolveOk (length F) n l x) where
  abbrev L : List Float
  L = part l (tri n) F

  l_at : (v : List Float) (i j : ℕ) → i + j < tri n → at (splice x v F) (l + i + j) ≡ at L (i + j)
  l_at v i j h =
      ap (at (splice x v F)) (add_assoc l i j) ∙ get_d_splice_below x v F (l + (i + j)) nan (omega arith) ∙ sym (get_d_part l (tri n) F (i + j) nan h)

  x_at_lem : (v : List Float) → length v ≡ n → (k : ℕ) → k < n → at (splice x v F) (x + k) ≡ at v k
  x_at_lem v q k h = get_d_splice_in x v F k nan (omega arith) (omega arith)

  low_turn_lem : (row : ℕ) → row < n → (v : List Float) → length v ≡ n
      → (length (low_row L row v) ≡ n) × (low_turn l x row (splice x v F) ≡ splice x (low_row L row v) F)
  unfolding low_turn low_row less_of low_term
  low_turn_lem row h v q =
      let s = for_same (less_of (splice x v F) (l + tri row) x) (low_term L row v) 0 row
      (λ k _ b t. rw (l_at v (tri row) k (tri_at k row n (omega arith) h), x_at_lem v q k (omega arith))) (at v row) in (
        length-set v _ _ ∙ q,
        rw (x_at_lem v q row h, s, l_at v (tri row) row (tri_at row row n (omega arith) h)) (set_splice x v F row _ (omega arith)),
      )

  -- The factor and x in a store with v at x.
  l_is : (v : List Float) → length v ≡ n → part l (tri n) (splice x v F) ≡ L
  l_is v q = part_splice_below l (tri n) x v F ok.ls

  x_is : (v : List Float) → length v ≡ n → part x n (splice x v F) ≡ v
  x_is v q = part_splice x n v F q ok.xs

  high_turn_lem : (j : ℕ) → j < n → (v : List Float) → length v ≡ n
      → (length (high_row L n (n - 1 - j) v) ≡ n) × (high_turn n l x j (splice x v F) ≡ splice x (high_row L n (n - 1 - j) v) F)
  unfolding high_turn high_row high_term
  high_turn_lem j h v q =
      let row : n - 1 - j < n = omega arith in (
        length-set v _ _ ∙ q,
        rw (l_is v q, x_is v q, l_at v (tri (n - 1 - j)) (n - 1 - j) (tri_at (n - 1 - j) (n - 1 - j) n (omega arith) row))
            (set_splice x v F (n - 1 - j) _ (omega arith)),
      )

  here : splice x (part x n F) F ≡ F
  here = splice_part x n F

  long : length (part x n F) ≡ n
  long = length_part x n F ok.xs

  low_law : (length (for (low_row L) 0 n (part x n F)) ≡ n) × (for (low_turn l x) 0 n F ≡ splice x (for (low_row L) 0 n (part x n F)) F)
  low_law =
      rw here at (for_map (λ (v : List Float). splice x v F) (λ (v : List Float). length v ≡ n) (low_row L) (low_turn l x) 0 n
      (λ row _ h v e. low_turn_lem row h v e) (part x n F) long)

  high_law : (length (for (λ j. high_row L n (n - 1 - j)) 0 n (part x n F)) ≡ n)
      × (for (high_turn n l x) 0 n F ≡ splice x (for (λ j. high_row L n (n - 1 - j)) 0 n (part x n F)) F)
  high_law =
      rw here at (for_map (λ (v : List Float). splice x v F) (λ (v : List Float). length v ≡ n) (λ j. high_row L n (n - 1 - j)) (high_turn n l x) 0 n
      (λ j _ h v e. high_turn_lem j h v e) (part x n F) long)

-- The loop of `lower_solve`.
pub lowered : {F G : List Float} {n l x k start : ℕ} → SolveOk (length F) n l x → UpAt n k start → k ≤ n
    → Left (low_turn l x) k n G (for (low_turn l x) 0 n F) → n ≤ k → Lowered n l x F G start
lowered {F} {G} {n} {l} {x} ok u b e h =
    let law = low_law F ok in
    record { wrote = wrote (left_end e h ∙ law.1) law.0; ends = up_end u b h }

-- The loop of `high_rest`.
pub high_done : {F : List Float} {n l x row start k : ℕ} {r : Float} → SolveOk (length F) n l x → RowAt n row start
    → Left (cross_turn F l x row) k n r (for (cross_turn F l x row) (row + 1) n (at F (x + row))) → n ≤ k → High F n l x row r
unfolding cross_turn high_term
high_done {F} {n} {l} {x} {row} ok a e h =
    let own = get_d_part x n F row nan a.within in
    record {
      is = left_end e h ∙ rw own (for_same _ _ (row + 1) n
          (λ k b c t. rw (add_assoc l (tri k) row, get_d_part l (tri n) F (tri k + row) nan (tri_at row k n (omega arith) c), get_d_part x n F k nan c)) _);
    }

-- The loop of `upper_solve`.
pub raised : {F G : List Float} {n l x k : ℕ} → SolveOk (length F) n l x → Left (high_turn n l x) k n G (for (high_turn n l x) 0 n F) → n ≤ k
    → Raised n l x F G
raised {F} ok e h = let law = high_law F ok in record { wrote = wrote (left_end e h ∙ law.1) law.0 }

-- ---- the whole

-- What the copy of the right-hand side requires.
pub copy_ok : {size n l rhs x : ℕ} → SolveOk size n l x → rhs + n ≤ x → CopyOk size n rhs x
copy_ok ok h = record { source = omega arith; target = omega arith; clear = omega arith }

-- What `lower_solve` requires.
pub solve_wrote : {F G v : List Float} {b m n l x : ℕ} → SolveOk (length F) n l x → Wrote b m v F G → SolveOk (length G) n l x
solve_wrote ok h = rw h.size ok

-- What `upper_solve` requires.
pub solve_lowered : {F G H v : List Float} {b m n l x top : ℕ} → SolveOk (length F) n l x → Wrote b m v F G → Lowered n l x G H top
    → SolveOk (length H) n l x
solve_lowered ok h i = rw (i.wrote.size, h.size) ok

-- `solve_factor` as the code has it.
pub solved : {F G H I : List Float} {n l x top : ℕ} (rhs : ℕ) → SolveOk (length F) n l x → Wrote x n (part rhs n F) F G
    → Lowered n l x G H top → Raised n l x H I → Wrote x n (solve_factor_of n (part l (tri n) F) (part rhs n F)) F I
unfolding solve_factor_of
solved {F} {G} {H} {I} {n} {l} {x} rhs ok c a b =
    let l₁ = wrote_off c l (tri n) (omega arith) in
    let x₁ = wrote_at c ok.xs in
    let a' = rw (l₁, x₁) at a.wrote in
    let l₂ = wrote_off a.wrote l (tri n) (omega arith) ∙ l₁ in
    let x₂ = wrote_at a' (omega (arith, c.size)) in
    let b' = rw (l₂, x₂) at b.wrote in
    wrote_again (wrote_again c a') b'
