-- What the functions of the DIC diagonal require and ensure. Definitions only.
use Rattle.refusal.specs.declared.Refusal.{Refusal}
use Rattle.std.specs.Prelude.{Bool, List, ◌≡◌, ℕ, ◌+◌, ◌≤◌, Float, Result, Ok, Err}
use Rattle.float.specs.Float.{div64, one64, is_finite}
use Rattle.store.specs.Region.{at, part, Wrote}
use Rattle.store.specs.Vector.{tab, each}
use Rattle.refusal.specs.Refusal.{bad_dic_reciprocal}
use Rattle.refusal.specs.Outcome.{Outcome, accepted, refused, passed, ask, ◌>>◌, ask_each}
use Rattle.matrix.specs.declared.matrix.SymmetricMatrix.{SymmetricMatrix}
use Rattle.matrix.specs.Contract.{KernelOk}

-- question 17: the reciprocal of row's pivot is finite
abbrev pub reciprocal_asked : ℕ → List Float → ℕ → Outcome Unit
reciprocal_asked level d row = ask (is_finite (div64 one64 (at d row))) (bad_dic_reciprocal level row) passed

-- the reciprocals of n pivots
abbrev pub inverted_of : ℕ → List Float → List Float
inverted_of n d = tab (λ row. div64 one64 (at d row)) n

-- the reciprocals of n pivots, each with question 17
unfoldable pub reciprocals_of : ℕ → ℕ → List Float → Outcome (List Float)
reciprocals_of level n d = do
  ask_each n (λ row. ask (is_finite (div64 one64 (at d row))) (bad_dic_reciprocal level row) passed)
  accepted (tab (λ row. div64 one64 (at d row)) n)

-- the matrix lies below the diagonal that is made
pub record DicOk (w : List ℕ) (size : ℕ) (s : SymmetricMatrix) (d : ℕ) : Type 0 where
  pub kernel : KernelOk w d s
  pub fits : d + s.rows ≤ size

-- the outcome of a verdict and what stands in the store by then
unfoldable pub settled : Result Unit Refusal → List Float → Outcome (List Float)
settled (Ok tt) v = accepted v
settled (Err q) v = refused q

-- What a function that asks while it makes n elements at b ensures: its answer and what it holds there make the outcome,
-- and in any case nothing else changed.
pub record Settled (b n : ℕ) (o : Outcome (List Float)) (F G : List Float) (r : Result Unit Refusal) : Type 0 where
  pub held : List Float
  pub wrote : Wrote b n held F G
  pub is : o ≡ settled r held

-- the pivots stand in F: what a pass over them leaves, each reciprocal, and whether all of them are finite
pub record Inverted (n d : ℕ) (F G : List Float) (r : Bool) : Type 0 where
  pub wrote : Wrote d n (inverted_of n (part d n F)) F G
  pub all : r ≡ each (λ row. is_finite (div64 one64 (at (part d n F) row))) n

-- the verdict on n reciprocals that stand in F at d decides how the questions go on
pub record ReciprocalsAsked (level n d : ℕ) (F : List Float) (r : Result Unit Refusal) : Type 0 where
  pub asked : (v : List Float)
      → ask_each n (λ row. ask (is_finite (at F (d + row))) (bad_dic_reciprocal level row) passed) (accepted v) ≡ settled r v
