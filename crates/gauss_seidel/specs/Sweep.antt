-- `gauss_seidel` and the DIC sweep of smoother.rs, over lists. Definitions only.
use Rattle.std.specs.Prelude.{Bool, cond, List, ℕ, ◌+◌, ◌-◌, set, Float}
use Rattle.float.specs.Float.{add64, sub64, mul64, zero64}
use Rattle.store.specs.Loop.{for}
use Rattle.store.specs.Region.{at, idx}
use Rattle.matrix.specs.Kernel.{Kernel, residual_of}

-- x, and the vector that a sweep makes beside it: `work` of Gauss-Seidel, `correction` of DIC
pub record Swept : Type 0 where
  pub x : List Float
  pub beside : List Float

module _ (k : Kernel) where
  -- a turn at each face of a row
  abbrev pub each_face : {S : Type 0} → ℕ → (ℕ → S → S) → S → S
  each_face row turn s = for turn (idx k.offsets row) (idx k.offsets (row + 1)) s

  -- face e: a * v[neighbor] is taken from a value, or added to it
  unfoldable pub gather_face : (Float → Float → Float) → List Float → ℕ → Float → Float
  gather_face op v e value = op value (mul64 (at k.coefficients e) (at v (idx k.neighbors e)))

  -- face e: the neighbour loses a * value
  unfoldable pub cast_face : Float → ℕ → List Float → List Float
  cast_face value e v =
      let j = idx k.neighbors e in
      set v j (sub64 (at v j) (mul64 (at k.coefficients e) value))

  -- the new x of a row, from the row's `work`
  unfoldable pub fresh_of : Swept → ℕ → Float
  fresh_of s row = mul64 (each_face row (gather_face sub64 s.x) (at s.beside row)) (at k.inverse row)

  -- a row of the forward sweep (the Rust writes x before it casts into `work`, the code after: the same float operations)
  unfoldable pub forward_row : ℕ → Swept → Swept
  forward_row row s =
      let value = fresh_of s row in
      record { x = set s.x row value; beside = each_face row (cast_face value) s.beside }

  -- row n - 1 - i of the backward sweep, which casts nothing
  unfoldable pub backward_row : ℕ → Swept → Swept
  backward_row i s =
      let row = k.rows - 1 - i in
      record { x = set s.x row (fresh_of s row); beside = s.beside }

  -- `gauss_seidel`: x and work, of rhs and x
  unfoldable pub gauss_seidel_of : Bool → List Float → List Float → Swept
  gauss_seidel_of symmetric rhs x =
      let s = for forward_row 0 k.rows (record { x = x; beside = rhs }) in
      cond symmetric (for backward_row 0 k.rows s) s

  module _ (dic : List Float) where
    -- a row of the forward substitution, in the correction
    unfoldable pub lower_row : ℕ → List Float → List Float
    lower_row row c =
        let value = mul64 (at c row) (at dic row) in
        each_face row (cast_face value) (set c row value)

    -- row n - 1 - i of the backward substitution, whose correction is added to x
    unfoldable pub upper_row : ℕ → Swept → Swept
    upper_row i s =
        let row = k.rows - 1 - i in
        let upper = each_face row (gather_face add64 s.beside) zero64 in
        let value = sub64 (at s.beside row) (mul64 (at dic row) upper) in
        record { x = set s.x row (add64 (at s.x row) value); beside = set s.beside row value }

    -- one DIC sweep: x and the correction, of rhs and x
    unfoldable pub dic_sweep_of : List Float → List Float → Swept
    dic_sweep_of rhs x = for upper_row 0 k.rows (record { x = x; beside = for lower_row 0 k.rows (residual_of k x rhs) })
