-- A level that is not the last, on the way down and on the way up: what is made of its vectors, and what the functions require and
-- ensure. Definitions only.
use Rattle.refusal.specs.declared.Refusal.{Refusal}
use Rattle.std.specs.Prelude.{◌≡◌, Bool, cond, List, ℕ, ◌+◌, ◌≤◌, ◌<◌, eqb, length, Float, Result}
use Rattle.float.specs.Float.{zero64}
use Rattle.store.specs.Region.{idx, part, Kept}
use Rattle.store.specs.Vector.{filled}
use Rattle.options.specs.declared.options.MultigridSmoother.{MultigridSmoother}
use Rattle.refusal.specs.Outcome.{Outcome, accepted, verdict_of, ◌>>=◌}
use Rattle.matrix.specs.Kernel.{Kernel, KernelOk, kernel_at}
use Rattle.smoother.specs.declared.LevelScratch.{LevelScratch}
use Rattle.smoother.specs.Smooth.{smooth_of}
use Rattle.correction.specs.declared.transfer.Aggregates.{Aggregates}
use Rattle.correction.specs.Transfer.{restrict_of, prolong_of}
use Rattle.cycle.specs.declared.visit.Inner.{Inner}
use Rattle.cycle.specs.Cycle.{residual_after, scaled_correction, corrected}

-- the map of a level's rows to those of the next level
abbrev pub aggregates_of : Inner → Aggregates
aggregates_of g = record { rows = g.matrix.rows; count = g.next; map = g.links }

-- ---- a level's vectors in the store

-- the right-hand side of a level of n rows whose vectors stand at v
abbrev pub rhs_at : LevelScratch → ℕ → List Float → List Float
rhs_at v n F = part v.rhs n F

-- its x
abbrev pub x_at : LevelScratch → ℕ → List Float → List Float
x_at v n F = part v.x n F

-- its correction
abbrev pub correction_at : LevelScratch → ℕ → List Float → List Float
correction_at v n F = part v.correction n F

-- where the residual stands after so many sweeps: with none it is the right-hand side, else it is with the work
abbrev pub residual_place : LevelScratch → ℕ → ℕ
residual_place v sweeps = cond (eqb sweeps 0) v.rhs v.work

-- what stands there
abbrev pub residual_at : LevelScratch → ℕ → ℕ → List Float → List Float
residual_at v n sweeps F = part (residual_place v sweeps) n F

module _ (w : List ℕ) (F : List Float) (g : Inner) where
  -- the matrix of the level at g
  abbrev pub matrix_at : Kernel
  matrix_at = kernel_at g.matrix w F

  -- the residual of x after so many sweeps
  abbrev pub residual_in : ℕ → List Float → List Float
  residual_in sweeps x = residual_after matrix_at sweeps (rhs_at g.vectors g.matrix.rows F) x

  -- so many sweeps on x: question 25
  abbrev pub smoothed_in : MultigridSmoother → ℕ → List Float → Outcome (List Float)
  smoothed_in kind sweeps x =
      smooth_of matrix_at (part g.dic g.matrix.rows F) (rhs_at g.vectors g.matrix.rows F) kind sweeps x

  -- so many sweeps on the x that stands there
  abbrev pub smoothed_at : MultigridSmoother → ℕ → Outcome (List Float)
  smoothed_at kind sweeps = smoothed_in kind sweeps (x_at g.vectors g.matrix.rows F)

  -- x with the correction that stands there and the residual after so many sweeps, scaled
  abbrev pub scaled_at : ℕ → Outcome (List Float)
  scaled_at sweeps =
      scaled_correction matrix_at (residual_at g.vectors g.matrix.rows sweeps F) (correction_at g.vectors g.matrix.rows F)
      (x_at g.vectors g.matrix.rows F)

  -- x with the correction e and the residual after so many sweeps, scaled or as it is
  abbrev pub corrected_in : Bool → ℕ → List Float → Outcome (List Float)
  corrected_in scale sweeps e =
      corrected scale matrix_at (residual_at g.vectors g.matrix.rows sweeps F) e (x_at g.vectors g.matrix.rows F)

  -- the next level's x, brought to the rows
  abbrev pub brought_at : List Float
  brought_at =
      prolong_of g.matrix.rows (part g.links g.matrix.rows w) (part g.below.x g.next F)

  -- x with it as the correction
  abbrev pub corrected_at : Bool → ℕ → Outcome (List Float)
  corrected_at scale sweeps = corrected_in scale sweeps brought_at

  -- x with it as the correction, and so many sweeps after it
  abbrev pub raised_at : MultigridSmoother → Bool → ℕ → ℕ → Outcome (List Float)
  raised_at kind scale pre post = do
    y ← corrected_in scale pre brought_at
    smoothed_in kind post y

-- ---- what the functions require and ensure

-- A level at g: its floats below its vectors, these in their order, and those of the next level behind them, which end in a store of that
-- size.
pub record InnerOk (w : List ℕ) (size : ℕ) (g : Inner) : Type 0 where
  pub kernel : KernelOk w g.vectors.rhs g.matrix
  pub dics : g.dic + g.matrix.rows ≤ g.vectors.rhs
  pub links : g.links + g.matrix.rows ≤ length w
  pub near : (row : ℕ) → row < g.matrix.rows → idx w (g.links + row) < g.next
  pub xs : g.vectors.rhs + g.matrix.rows ≤ g.vectors.x
  pub works : g.vectors.x + g.matrix.rows ≤ g.vectors.work
  pub corrections : g.vectors.work + g.matrix.rows ≤ g.vectors.correction
  pub products : g.vectors.correction + g.matrix.rows ≤ g.vectors.product
  pub nexts : g.vectors.product + g.matrix.rows ≤ g.below.rhs
  pub coarses : g.below.rhs + g.next ≤ g.below.x
  pub room : g.below.x + g.next ≤ size

-- x and what lies above it apart, nothing changed; `out` is the verdict's, and accepted it is x
pub record Moved (x n : ℕ) (out : Outcome (List Float)) (F G : List Float) (r : Result Unit Refusal) : Type 0 where
  pub answer : r ≡ verdict_of out
  pub is : (v : List Float) → out ≡ accepted v → part x n G ≡ v
  pub floats : Kept x F G

-- The residual after so many sweeps stands in its place; x and what lies below it are as they were.
pub record Resided (w : List ℕ) (F G : List Float) (g : Inner) (sweeps : ℕ) : Type 0 where
  pub is : residual_at g.vectors g.matrix.rows sweeps G ≡ residual_in w F g sweeps (x_at g.vectors g.matrix.rows F)
  pub floats : Kept g.vectors.work F G

-- The residual r, its sums over the aggregates as the next level's right-hand side, and zero for the next level's x stand in G.
pub record Left (w : List ℕ) (G : List Float) (g : Inner) (sweeps : ℕ) (r : List Float) : Type 0 where
  pub residual : residual_at g.vectors g.matrix.rows sweeps G ≡ r
  pub rhs : part g.below.rhs g.next G ≡ restrict_of g.next g.matrix.rows (part g.links g.matrix.rows w) r
  pub zeros : part g.below.x g.next G ≡ filled g.next zero64

-- The residual of the x that stands there is left; x and what lies below it are as they were.
pub record Restricted (w : List ℕ) (F G : List Float) (g : Inner) (sweeps : ℕ) : Type 0 where
  pub left : Left w G g sweeps (residual_in w F g sweeps (x_at g.vectors g.matrix.rows F))
  pub floats : Kept g.vectors.work F G

-- The way down: x smoothed, and its residual left.
pub record Downed (kind : MultigridSmoother) (w : List ℕ) (F G : List Float) (g : Inner) (sweeps : ℕ) (r : Result Unit Refusal) : Type 0 where
  pub moved : Moved g.vectors.x g.matrix.rows (smoothed_at w F g kind sweeps) F G r
  pub left : (v : List Float) → smoothed_at w F g kind sweeps ≡ accepted v → Left w G g sweeps (residual_in w F g sweeps v)
