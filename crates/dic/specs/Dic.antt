-- `update_dic_diagonal` of smoother.rs, over lists: pivots row by row (question 16), then each one's reciprocal (17).
-- Definitions only.
use Rattle.std.specs.Prelude.{Bool, not, ◌&&◌, List, ℕ, set, Float}
use Rattle.std.specs.Float.Ieee.{le}
use Rattle.float.specs.Float.{sub64, div64, square_of, zero64, one64, is_finite}
use Rattle.store.specs.Loop.{for}
use Rattle.store.specs.Region.{at, idx}
use Rattle.store.specs.Vector.{tab}
use Rattle.refusal.specs.Refusal.{bad_dic_pivot, bad_dic_reciprocal}
use Rattle.refusal.specs.Outcome.{Outcome, accepted, passed, ask, ◌>>=◌, ◌>>◌, ask_each}
use Rattle.matrix.specs.Kernel.{Kernel}
use Rattle.gauss_seidel.specs.Sweep.{each_face}
unfoldable pub use Rattle.dic.specs.Contract.{reciprocals_of, settled}
pub use Rattle.dic.specs.Contract.{reciprocal_asked, DicOk, Settled}

-- question 16: `is_finite()`, and not `<= 0.0`
unfoldable pub is_pivot : Float → Bool
is_pivot d = is_finite d && not (le d zero64)

-- face e of a row: the neighbour's pivot loses `coefficient.powi(2) / pivot`
unfoldable pub pivot_face : Kernel → Float → ℕ → List Float → List Float
pivot_face k pivot e d =
    let j = idx k.neighbors e in
    set d j (sub64 (at d j) (div64 (square_of (at k.coefficients e)) pivot))

-- a row: its pivot is asked, then taken to its neighbours
unfoldable pub pivot_row : ℕ → Kernel → ℕ → Outcome (List Float) → Outcome (List Float)
pivot_row level k row o = do
  d ← o
  ask (is_pivot (at d row)) (bad_dic_pivot level row)
  accepted (each_face k row (pivot_face k (at d row)) d)

-- the pivots, from the diagonal
unfoldable pub pivots_of : ℕ → Kernel → Outcome (List Float)
pivots_of level k = for (pivot_row level k) 0 k.rows (accepted k.diagonal)

-- `update_dic_diagonal`: the reciprocals of the pivots, which have all been asked by then, each with question 17
unfoldable pub dic_of : ℕ → Kernel → Outcome (List Float)
dic_of level k = do
  d ← pivots_of level k
  ask_each k.rows (λ row. ask (is_finite (div64 one64 (at d row))) (bad_dic_reciprocal level row) passed)
  accepted (tab (λ row. div64 one64 (at d row)) k.rows)
