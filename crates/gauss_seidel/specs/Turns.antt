-- The loops of the code as functions of the store, and what the inner functions require and ensure. Definitions only.
use Rattle.std.specs.Prelude.{List, ◌≡◌, Bool, ℕ, ◌+◌, ◌-◌, length, set, Float}
use Rattle.float.specs.Float.{add64, sub64, mul64, zero64}
use Rattle.store.specs.Loop.{for}
use Rattle.store.specs.Region.{at, idx}
use Rattle.store.specs.Held.{Held}
use Rattle.matrix.specs.declared.matrix.SymmetricMatrix.{SymmetricMatrix}
use Rattle.matrix.specs.Turns.{start_of, end_of}

-- what a loop leaves in a store
pub record Stored (turn : ℕ → List Float → List Float) (lo hi : ℕ) (F G : List Float) : Type 0 where
  pub is : G ≡ for turn lo hi F
  pub size : length G ≡ length F

-- what a loop leaves in a store, and what a caller that is near then holds
pub record Watched (turn : ℕ → List Float → List Float) (lo hi : ℕ) (F G : List Float) (near : Bool) (watched : ℕ) (r : Float) : Type 0 where
  pub is : G ≡ for turn lo hi F
  pub held : Held near watched G r

-- what a turn leaves in a store, in which r stands at `watched`
pub record Handed (turn : ℕ → List Float → List Float) (k : ℕ) (F G : List Float) (watched : ℕ) (r : Float) : Type 0 where
  pub is : G ≡ turn k F
  pub held : r ≡ at G watched

module _ (w : List ℕ) (s : SymmetricMatrix) where
  -- a turn at each face of a row
  abbrev pub row_faces : {S : Type 0} → ℕ → (ℕ → S → S) → S → S
  row_faces row turn t = for turn (start_of w s row) (end_of w s row) t

  -- `gatherFace` in a store
  unfoldable pub gather_turn : (Float → Float → Float) → List Float → ℕ → ℕ → Float → Float
  gather_turn op F v e value = op value (mul64 (at F (s.coefficients + e)) (at F (v + idx w (s.neighbors + e))))

  -- face e: the neighbour's value in v loses what share makes of the coefficient
  unfoldable pub scatter_turn : (Float → Float) → ℕ → ℕ → List Float → List Float
  scatter_turn share v e F =
      let j = idx w (s.neighbors + e) in
      set F (v + j) (sub64 (at F (v + j)) (share (at F (s.coefficients + e))))

  -- `castFace` in a store
  abbrev pub cast_turn : ℕ → Float → ℕ → List Float → List Float
  cast_turn v value = scatter_turn (λ a. mul64 a value) v

  -- `fresh_of` in a store
  unfoldable pub fresh_at : ℕ → ℕ → ℕ → List Float → Float
  fresh_at x work row F = mul64 (row_faces row (gather_turn sub64 F x) (at F (work + row))) (at F (s.inverse + row))

  -- `forwardRow` in a store
  unfoldable pub forward_turn : ℕ → ℕ → ℕ → List Float → List Float
  forward_turn x work row F =
      let value = fresh_at x work row F in
      set (row_faces row (cast_turn work value) F) (x + row) value

  -- `backwardRow` in a store
  unfoldable pub backward_turn : ℕ → ℕ → ℕ → List Float → List Float
  backward_turn x work i F =
      let row = s.rows - 1 - i in
      set F (x + row) (fresh_at x work row F)

  module _ (dic c : ℕ) where
    -- `lowerRow` in a store
    unfoldable pub lower_turn : ℕ → List Float → List Float
    lower_turn row F =
        let value = mul64 (at F (c + row)) (at F (dic + row)) in
        row_faces row (cast_turn c value) (set F (c + row) value)

    -- the new correction of a row on the way back
    unfoldable pub upper_at : ℕ → List Float → Float
    upper_at row F = sub64 (at F (c + row)) (mul64 (at F (dic + row)) (row_faces row (gather_turn add64 F c) zero64))

    -- `upperRow` in a store
    unfoldable pub upper_turn : ℕ → ℕ → List Float → List Float
    upper_turn x i F =
        let row = s.rows - 1 - i in
        let value = upper_at row F in
        set (set F (c + row) value) (x + row) (add64 (at F (x + row)) value)

-- the faces from lo to hi gathered into a value
pub record Gathered (op : Float → Float → Float) (w : List ℕ) (s : SymmetricMatrix) (v lo hi : ℕ) (start : Float) (F : List Float) (r : Float) : Type 0 where
  pub is : r ≡ for (gather_turn w s op F v) lo hi start

-- the new x of a row
pub record Fresh (w : List ℕ) (s : SymmetricMatrix) (x work row : ℕ) (F : List Float) (r : Float) : Type 0 where
  pub is : r ≡ fresh_at w s x work row F

-- a row's correction, scaled in place
pub record Scaled (dic c row : ℕ) (F G : List Float) (r : Float) : Type 0 where
  pub value : r ≡ mul64 (at F (c + row)) (at F (dic + row))
  pub is : G ≡ set F (c + row) r

-- the new correction of a row on the way back
pub record Upper (w : List ℕ) (s : SymmetricMatrix) (dic c row : ℕ) (F : List Float) (r : Float) : Type 0 where
  pub is : r ≡ upper_at w s dic c row F
