-- The loops of the code as functions of the store, and what the inner functions require and ensure. Definitions only.
use Rattle.std.specs.Prelude.{List, ◌≡◌, ℕ, ◌+◌, ◌≤◌, length, set, Float}
use Rattle.float.specs.Float.{add64, sub64, mul64}
use Rattle.store.specs.Loop.{for}
use Rattle.store.specs.Region.{at, idx}
use Rattle.matrix.specs.declared.matrix.SymmetricMatrix.{SymmetricMatrix}
use Rattle.matrix.specs.Contract.{KernelOk}
use Rattle.matrix.specs.Kernel.{Owned}

-- how many faces the matrix has
abbrev pub faces_of : List ℕ → SymmetricMatrix → ℕ
faces_of w s = idx w (s.offsets + s.rows)

-- where the faces of a row start: those of the row before end there
abbrev pub start_of : List ℕ → SymmetricMatrix → ℕ → ℕ
start_of w s row = idx w (s.offsets + row)

-- where they end
abbrev pub end_of : List ℕ → SymmetricMatrix → ℕ → ℕ
end_of w s row = idx w (s.offsets + row + 1)

-- The matrix lies in the stores, and so do two vectors with an element for each row, at u and v.
pub record VectorsOk (w : List ℕ) (size : ℕ) (s : SymmetricMatrix) (u v : ℕ) : Type 0 where
  pub kernel : KernelOk w size s
  pub us : u + s.rows ≤ size
  pub vs : v + s.rows ≤ size

-- out[k] = diagonal[k] * x[k]
unfoldable pub product_turn : SymmetricMatrix → ℕ → ℕ → ℕ → List Float → List Float
product_turn s x out k F = set F (out + k) (mul64 (at F (s.diagonal + k)) (at F (x + k)))

-- out[k] = rhs[k] - diagonal[k] * x[k]
unfoldable pub less_turn : SymmetricMatrix → ℕ → ℕ → ℕ → ℕ → List Float → List Float
less_turn s x rhs out k F = set F (out + k) (sub64 (at F (rhs + k)) (mul64 (at F (s.diagonal + k)) (at F (x + k))))

-- x spread over the faces into out, where op adds or subtracts
module _ (op : Float → Float → Float) (w : List ℕ) (s : SymmetricMatrix) (x out : ℕ) where
  -- `spreadFace` in a store
  unfoldable pub face_turn : Float → ℕ → Owned → Owned
  face_turn own e t =
      let F = t.vector in
      let j = idx w (s.neighbors + e) in
      let a = at F (s.coefficients + e) in
      record { vector = set F (out + j) (op (at F (out + j)) (mul64 a own)); owner = op t.owner (mul64 a (at F (x + j))) }

  -- `spreadRow` in a store
  unfoldable pub row_turn : ℕ → List Float → List Float
  row_turn row F =
      let t = for (face_turn (at F (x + row))) (start_of w s row) (end_of w s row) (record { vector = F; owner = at F (out + row) }) in
      set t.vector (out + row) t.owner

  -- what the faces from lo to hi of a row leave, and its owner's value
  pub record Faced (lo hi : ℕ) (own : Float) (F : List Float) (owner : Float) (G : List Float) (r : Float) : Type 0 where
    pub is : record { vector = G; owner = r } ≡ for (face_turn own) lo hi (record { vector = F; owner = owner })

  -- what the faces of one row leave, and where those of the next start
  pub record Rowed (row : ℕ) (F G : List Float) (end : ℕ) : Type 0 where
    pub is : G ≡ row_turn row F
    pub next : end ≡ start_of w s (row + 1)

  -- what the faces of every row leave
  pub record Spread (F G : List Float) : Type 0 where
    pub is : G ≡ for row_turn 0 s.rows F

-- the sums of the rows, at `sums`
module _ (w : List ℕ) (s : SymmetricMatrix) (sums : ℕ) where
  -- `sumFace` in a store
  unfoldable pub sum_turn : ℕ → ℕ → List Float → List Float
  sum_turn row e F =
      let j = idx w (s.neighbors + e) in
      let a = at F (s.coefficients + e) in
      let G = set F (sums + row) (add64 (at F (sums + row)) a) in
      set G (sums + j) (add64 (at G (sums + j)) a)

  -- `sumRow` in a store
  unfoldable pub sum_row_turn : ℕ → List Float → List Float
  sum_row_turn row F = for (sum_turn row) (start_of w s row) (end_of w s row) F

  -- A face of a row whose sum is held: once laid into the store, what is held and what stands there are those of the turn.
  pub record SumHeld (row face : ℕ) (F : List Float) (own : Float) (G : List Float) (r : Float) : Type 0 where
    pub is : set G (sums + row) r ≡ sum_turn row face (set F (sums + row) own)
    pub size : length G ≡ length F

  -- what the faces from lo to hi of a row leave in the sums
  pub record SumFaced (row lo hi : ℕ) (F G : List Float) : Type 0 where
    pub is : G ≡ for (sum_turn row) lo hi F

  -- what the faces of one row leave
  pub record SumRowed (row : ℕ) (F G : List Float) : Type 0 where
    pub is : G ≡ sum_row_turn row F

  -- what the faces of every row leave
  pub record Summed (F G : List Float) : Type 0 where
    pub is : G ≡ for sum_row_turn 0 s.rows F
