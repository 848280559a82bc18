-- The Galerkin product with piecewise constant transfer, over the whole numbers (Trottenberg, Oosterlee, Schüller). Definitions only.
use Rattle.std.specs.Prelude.{Bool, cond, ℕ, zero, suc, eqb, ℤ, pos, ◌+ℤ◌, ◌*ℤ◌}

-- g 0 + g 1 + .. + g (n - 1)
unfoldable pub Σℤ : ℕ → (ℕ → ℤ) → ℤ
Σℤ zero g = pos 0
Σℤ (suc n) g = Σℤ n g +ℤ g n

-- z where b holds, else 0
abbrev pub when : Bool → ℤ → ℤ
when b z = cond b z (pos 0)

-- the transfer operator P: 1 where row i stands in aggregate c, else 0
unfoldable pub transfer : (ℕ → ℕ) → ℕ → ℕ → ℤ
transfer map i c = cond (eqb (map i) c) (pos 1) (pos 0)

-- the matrix A of m entries, each with its row, column and value
unfoldable pub dense : ℕ → (ℕ → ℕ) → (ℕ → ℕ) → (ℕ → ℤ) → ℕ → ℕ → ℤ
dense m row column z i j = Σℤ m (λ e. when (eqb (row e) i) (when (eqb (column e) j) (z e)))

-- the entry (c, d) of Pᵀ A P, for n rows
unfoldable pub galerkin_product : ℕ → (ℕ → ℕ) → (ℕ → ℕ → ℤ) → ℕ → ℕ → ℤ
galerkin_product n map A c d = Σℤ n (λ i. Σℤ n (λ j. transfer map i c *ℤ (A i j *ℤ transfer map j d)))
