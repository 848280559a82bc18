-- Where the rows of a packed triangle start and end.
-- Assumes nothing.
use mathlib.Core.Path.{◌≡◌, refl, sym, ap, ◌∙◌}
use mathlib.Core.Logic.{⊎_elim}
use Prim.Native.Nat.{ℕ, zero, suc, ◌+◌, ◌-◌, ◌≤◌, ◌<◌, min}
use native.Mathlib.Nat.{add_assoc, not-suc-le-zero}
use native.Mathlib.Numerals.{add-one}
use native.Mathlib.Omega.{arith}
use Rattle.store.proofs.store.Region.{le_or_lt}
use Rattle.cholesky.specs.Triangle.{tri}
use Rattle.cholesky.specs.TriangleContract.{RowAt}

-- The step of a running start.
pub tri_on : (r : ℕ) → tri (r + 1) ≡ tri r + (r + 1)
unfolding tri
tri_on r = rw (add-one r)

-- The first row starts at 0.
pub tri_zero : tri 0 ≡ 0
unfolding tri
tri_zero = refl

-- A row ends before any later row starts.
pub tri_row : (r n : ℕ) → r < n → tri r + r + 1 ≤ tri n
unfolding tri
tri_row r zero h = absurd (not-suc-le-zero h)
tri_row r (suc n) h =
    ⊎_elim (λ (q : n ≤ r). let e : r ≡ n = omega arith in rw e (omega arith)) (λ q. let i = tri_row r n q in omega arith) (le_or_lt n r)

-- A column of a row is within the triangle.
pub tri_at : (c r n : ℕ) → c ≤ r → r < n → tri r + c < tri n
tri_at c r n l h = let i = tri_row r n h in omega arith

-- A row starts no earlier than its number.
tri_least : (r : ℕ) → r ≤ tri r
unfolding tri
tri_least zero = omega arith
tri_least (suc r) = omega arith

-- A row and its start, going up: where row is below n, it ends within the triangle, in a form that `omega` reads.
pub record UpAt (n row start : ℕ) : Type 0 where
  pub starts : start ≡ tri row
  pub fits : min (n - row) (start + row + 1 - tri n) ≡ 0

up_fits : (n row : ℕ) → min (n - row) (tri row + row + 1 - tri n) ≡ 0
up_fits n row = ⊎_elim (λ (q : n ≤ row). omega arith) (λ q. let i = tri_row row n q in omega arith) (le_or_lt n row)

-- The first row.
pub up_start : (n : ℕ) → UpAt n 0 0
up_start n = record { starts = sym tri_zero; fits = rw (tri_zero) at (up_fits n 0) }

-- The next row.
pub up_on : {n row start : ℕ} → UpAt n row start → UpAt n (row + 1) (start + (row + 1))
up_on {n} {row} {start} u =
    let e : start + (row + 1) ≡ tri (row + 1) = rw u.starts (sym (tri_on row)) in
    record { starts = e; fits = rw e (up_fits n (row + 1)) }

-- A row that is below n.
pub up_row : {n row start : ℕ} → UpAt n row start → row < n → RowAt n row start
up_row {n} {row} {start} u h = record { starts = u.starts; fits = omega (arith, u.fits); within = h }

-- The row after a row below n.
pub up_next : {n row start : ℕ} → RowAt n row start → UpAt n (row + 1) (start + row + 1)
up_next {n} {row} {start} u =
    let e : start + row + 1 ≡ tri (row + 1) = add_assoc start row 1 ∙ rw u.starts (sym (tri_on row)) in
    record { starts = e; fits = rw e (up_fits n (row + 1)) }

-- After the last row the triangle ends.
pub up_end : {n row start : ℕ} → UpAt n row start → row ≤ n → n ≤ row → start ≡ tri n
up_end {n} {row} {start} u b h = let z : row ≡ n = omega arith in rw z at u.starts

-- Going down, j rows are done.
pub record DownAt (n j start : ℕ) : Type 0 where
  pub starts : start ≡ tri (n - j)
  pub enough : n - j ≤ start
  pub within : start ≤ tri n

-- At the end of the triangle none is.
pub down_start : (n top : ℕ) → top ≡ tri n → DownAt n 0 top
down_start n top e =
    let z : n ≡ n - 0 = omega arith in
    let i = tri_least n in
    record { starts = e ∙ ap tri z; enough = omega arith; within = omega arith }

-- The row that is next on the way down.
pub down_row : {n j start row : ℕ} → DownAt n j start → j < n → row ≡ n - 1 - j → RowAt n row (start - (row + 1))
down_row {n} {j} {start} {row} d h e =
    let z : n - j ≡ row + 1 = omega arith in
    let s : start ≡ tri row + (row + 1) = d.starts ∙ ap tri z ∙ tri_on row in
    record { starts = omega arith; fits = omega arith; within = omega arith }

-- One row more is done.
pub down_on : {n j start row : ℕ} → DownAt n j start → j < n → row ≡ n - 1 - j → DownAt n (j + 1) (start - (row + 1))
down_on {n} {j} {start} {row} d h e =
    let r = down_row d h e in
    let z : n - (j + 1) ≡ row = omega arith in
    let i = tri_least row in
    record { starts = r.starts ∙ ap tri (sym z); enough = omega (arith, r.starts); within = omega arith }
