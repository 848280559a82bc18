-- What two builds of the same input have in common, and what a refused build leaves. Definitions only.
use Rattle.refusal.specs.declared.Refusal.{Refusal}
use Rattle.std.specs.Prelude.{◌≡◌, List, ℕ, length, Float, Result, Ok}
use Rattle.float.specs.Float.{zero64}
use Rattle.store.specs.Vector.{filled}
use Rattle.options.specs.declared.options.Handle.{Handle}
use Rattle.layout.specs.Layout.{view_of}
use Rattle.solver.specs.declared.statistics.MultigridLevelStatistics.{MultigridLevelStatistics}
use Rattle.solver.specs.Statistics.{unvisited}

-- Two builds left the stores z, G and z', G' with the statistics t and t', and answered r and r': the same answer, the same statistics,
-- and where they accepted the same hierarchy.
pub record Same (z z' : List ℕ) (G G' : List Float) (t t' : List MultigridLevelStatistics) (r r' : Result Handle Refusal) : Type 0 where
  pub answer : r' ≡ r
  pub statistics : t' ≡ t
  pub view : (h : Handle) → r ≡ Ok h → view_of h.levels z' G' 0 ≡ view_of h.levels z G 0

-- All words of the stores w and F and all records of the statistics s are zeros in z, G and t.
pub record Zeroed (w z : List ℕ) (F G : List Float) (s t : List MultigridLevelStatistics) : Type 0 where
  pub words : z ≡ filled (length w) 0
  pub floats : G ≡ filled (length F) zero64
  pub statistics : t ≡ filled (length s) (unvisited 0)
