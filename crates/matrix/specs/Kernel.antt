-- `SymmetricMatrix` of matrix.rs over lists: a diagonal with its reciprocals, and for each row its faces, the columns above
-- the diagonal with the upper value. Definitions only.
use Rattle.std.specs.Prelude.{List, ℕ, ◌+◌, set, Float}
use Rattle.float.specs.Float.{add64, sub64, mul64}
use Rattle.store.specs.Loop.{for}
use Rattle.store.specs.Region.{at, idx, part}
use Rattle.store.specs.Vector.{tab}
use Rattle.matrix.specs.declared.matrix.SymmetricMatrix.{SymmetricMatrix}
pub use Rattle.matrix.specs.Contract.{KernelOk}

-- a symmetric matrix by its faces: those of row r stand from offsets[r] up to offsets[r + 1]
pub record Kernel : Type 0 where
  pub rows : ℕ
  pub diagonal : List Float
  pub inverse : List Float
  pub offsets : List ℕ
  pub neighbors : List ℕ
  pub coefficients : List Float

-- the kernel that stands in the stores at the places of s
unfoldable pub kernel_at : SymmetricMatrix → List ℕ → List Float → Kernel
kernel_at s w F =
    let faces = idx w (s.offsets + s.rows) in
    record {
      rows = s.rows;
      diagonal = part s.diagonal s.rows F;
      inverse = part s.inverse s.rows F;
      offsets = part s.offsets (s.rows + 1) w;
      neighbors = part s.neighbors faces w;
      coefficients = part s.coefficients faces F;
    }

-- a vector that is being made, and the owner's value beside it
pub record Owned : Type 0 where
  pub vector : List Float
  pub owner : Float

module _ (op : Float → Float → Float) (k : Kernel) (x : List Float) where
  -- face e of a row whose own x is own: the owner takes a * x[neighbor], the neighbour a * own
  unfoldable pub spread_face : Float → ℕ → Owned → Owned
  spread_face own e s =
      let j = idx k.neighbors e in
      let a = at k.coefficients e in
      record { vector = set s.vector j (op (at s.vector j) (mul64 a own)); owner = op s.owner (mul64 a (at x j)) }

  -- the faces of one row
  unfoldable pub spread_row : ℕ → List Float → List Float
  spread_row row v =
      let s = for (spread_face (at x row)) (idx k.offsets row) (idx k.offsets (row + 1)) (record { vector = v; owner = at v row }) in
      set s.vector row s.owner

  -- the faces of every row, in row order, added to v or taken from it
  unfoldable pub spread_of : List Float → List Float
  spread_of v = for spread_row 0 k.rows v

-- `apply`: A x
unfoldable pub apply_of : Kernel → List Float → List Float
apply_of k x = spread_of add64 k x (tab (λ r. mul64 (at k.diagonal r) (at x r)) k.rows)

-- the fused `residual`: b - A x, which rounds otherwise than a subtraction after `apply`
unfoldable pub residual_of : Kernel → List Float → List Float → List Float
residual_of k x rhs = spread_of sub64 k x (tab (λ r. sub64 (at rhs r) (mul64 (at k.diagonal r) (at x r))) k.rows)

module _ (k : Kernel) where
  -- face e of a row: its coefficient is added to the row's sum, then to the neighbour's
  unfoldable pub sum_face : ℕ → ℕ → List Float → List Float
  sum_face row e v =
      let j = idx k.neighbors e in
      let a = at k.coefficients e in
      let u = set v row (add64 (at v row) a) in
      set u j (add64 (at u j) a)

  -- `row_sums_into`: the sum of each row of A, from its diagonal, over the faces of every row in row order
  unfoldable pub row_sums_of : List Float
  row_sums_of = for (λ row. for (sum_face row) (idx k.offsets row) (idx k.offsets (row + 1))) 0 k.rows k.diagonal

  -- the faces of one row, by the name that proofs have for them
  unfoldable pub sum_row : ℕ → List Float → List Float
  sum_row row v = for (sum_face row) (idx k.offsets row) (idx k.offsets (row + 1)) v
