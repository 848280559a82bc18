-- acceleration.rs: a restarted flexible GCR correction, over lists. Definitions only.
use Rattle.std.specs.Prelude.{cond, List, [], ◌∷◌, ◌++◌, ℕ, eqb, Float, length}
use Rattle.refusal.specs.Outcome.{Outcome, accepted, ◌>>=◌}
use Rattle.acceleration.specs.Directions.{Pair, pass_of}
use Rattle.acceleration.specs.Normal.{normal_of}
use Rattle.acceleration.specs.Advance.{advance_of}

-- the stored pairs and the solution, after a correction
pub record Corrections : Type 0 where
  pub memory : List Pair
  pub solution : List Float

-- two passes, the second to keep a small history reliable
unfoldable pub twice_of : ℕ → List Pair → Pair → Outcome Pair
twice_of n memory s = do
  t ← pass_of n memory s
  pass_of n memory t

-- the stored pairs, none where the memory is full
unfoldable pub kept_of : ℕ → List Pair → List Pair
kept_of krylov memory = cond (eqb (length memory) krylov) [] memory

-- `correct`: the new pair orthogonalised, normalised and stored, and the step along it
unfoldable pub correct_of : ℕ → ℕ → List Pair → Pair → List Float → List Float → Outcome Corrections
correct_of n krylov memory new residual solution = do
  orthogonal ← twice_of n (kept_of krylov memory) new
  pair ← normal_of n orthogonal
  moved ← advance_of n residual pair solution
  accepted (record { memory = kept_of krylov memory ++ (pair ∷ []); solution = moved })
